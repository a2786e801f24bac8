-- What a good split leaves.
use Rattle.std.specs.Prelude.{ℕ, List, Option, option_map}
use Rattle.lv_boxes.specs.Members.{ZoneValue}
use Rattle.lv_cert_laws.specs.lv_cert_meaning.Judging.{Judged}
use Rattle.lv_cert_laws.specs.lv_cert_meaning.Space.{with_parts}

-- the zone of this number has these parts in its place, if it may be split so
abbrev pub split_into : Judged → ℕ → Option (List ZoneValue) → Option Judged
split_into j n parts = option_map (λ ps. record j { space = with_parts j.space n ps }) parts
