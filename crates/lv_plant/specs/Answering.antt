-- A plant as what answers lines, one after another.
use Rattle.std.specs.Prelude.{ℕ, ◌≡◌, List}
use Rattle.lv_plant.specs.Standing.{Standing, done}
use Rattle.lv_plant.specs.Replies.{plant_text}

-- where a line leads to
abbrev pub next_at : Standing → List ℕ → Standing
next_at s line = (done s line).next

-- the text is the reply to a line
abbrev pub SaysAt : Standing → List ℕ → List ℕ → Type 0
SaysAt s line text = text ≡ plant_text s.session.plant (done s line).reply
