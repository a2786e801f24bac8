-- each turn closes one zone more
use Rattle.std.proofs.Common.{◌≡◌, ◌+◌, ◌<◌, ◌++◌, ◌∷◌, [], All, length, sym, subst, rules}
use Rattle.std.proofs.lemmas.List.Elements.{All-cons, All-nil, All-append}
use Rattle.lv_cert_writing.specs.Closing.{SplitIsSmall}
use Rattle.std.specs.Option.{option_copied}
use Rattle.lv_cert_writing.proofs.ClosingLemmas.{stands_at_start, turn_weighs_less, turn_left, turn_split}
use Rattle.lv_cert_writing.proofs.closing.close.Goals as goal
use Rattle.lv_cert_writing.proofs.closing.close.Goals.{in-Some+in_ok-push, in_default}

pub loop-at-init : goal.loop-at-init
loop-at-init c = (
  stands_at_start (option_copied c.args.why.now.targets) c.args.why.now.question c.args.grid c.args.zones.items (option_copied c.args.why.now.last) c.args.why.now.listed.now c.args.why.now.excluded.now
      c.in_ok-space.space c.new-made.result.items c.in_ok-space.ensures c.new-made.ensures.items c.requires.explained,
  subst (All SplitIsSmall) (sym c.new-made.ensures.items) (All-nil SplitIsSmall),
)

pub loop-at-smaller : goal.loop-at-smaller
loop-at-smaller c =
    turn_weighs_less (option_copied c.args.why.now.targets) c.args.why.now.question c.args.grid c.args.zones.items (option_copied c.args.why.now.last) c.args.why.now.listed.now c.args.why.now.excluded.now
    c.loop-at.at c.loop-at.space c.close_zone.new.space c.loop-at.made.items c.loop-at.invariant.0 (search rules) c.requires.targets c.requires.few c.in_ok-by.ensures.space

pub loop-at-preserved : goal.loop-at-preserved
loop-at-preserved c =
    let within : c.loop-at.at < length c.loop-at.space.zones = search rules in
    elim c.match-branch-3.branch [
      | in-Some+in_ok-push w ↦
          let added : c.match-branch-3.made.items ≡ c.loop-at.made.items ++ record { zone = c.loop-at.at + 1; by = w.in-Some.by } ∷ [] = search rules in
          let small : SplitIsSmall (record { zone = c.loop-at.at + 1; by = w.in-Some.by }) = record { zone = search rules; by = search rules } in (
            turn_split (option_copied c.args.why.now.targets) c.args.why.now.question c.args.grid c.args.zones.items (option_copied c.args.why.now.last) c.args.why.now.listed.now c.args.why.now.excluded.now
                c.loop-at.at c.loop-at.space c.close_zone.new.space c.loop-at.made.items c.loop-at.invariant.0 within c.requires.targets c.requires.few c.in_ok-by.ensures.space
                w.in-Some.by c.match-branch-3.made.items (search rules) (search rules),
            subst (All SplitIsSmall) (sym added) (All-append SplitIsSmall c.loop-at.made.items (record { zone = c.loop-at.at + 1; by = w.in-Some.by } ∷ []) c.loop-at.invariant.1
                (All-cons SplitIsSmall (record { zone = c.loop-at.at + 1; by = w.in-Some.by }) [] small (All-nil SplitIsSmall))),
          )
      | in_default w ↦
          let same : c.match-branch-3.made.items ≡ c.loop-at.made.items = search rules in (
            turn_left (option_copied c.args.why.now.targets) c.args.why.now.question c.args.grid c.args.zones.items (option_copied c.args.why.now.last) c.args.why.now.listed.now c.args.why.now.excluded.now
                c.loop-at.at c.loop-at.space c.close_zone.new.space c.loop-at.made.items c.loop-at.invariant.0 within c.requires.targets c.requires.few c.in_ok-by.ensures.space
                c.match-branch-3.made.items (search rules) (search rules),
            subst (All SplitIsSmall) (sym same) c.loop-at.invariant.1,
          )
    ]
