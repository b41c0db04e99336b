use Rattle.std.specs.Prelude.{◌≡◌, ◌+◌, ◌-◌, ◌<◌, length, take, drop, replicate}
use Rattle.std.proofs.Common.{sym, ap, ◌∙◌, arith, length-take, length-drop}
use Rattle.std.proofs.lemmas.List.{length-replicate}
use Rattle.wire.proofs.BufferLaws.{copied_room, part_put}
use Rattle.wait_area.proofs.AreaLaws.{fill_none}
use Rattle.wait_area.proofs.fill.Goals as goal
use Rattle.wait_area.proofs.fill.Goals.{else-at-area-via-then-at-area+else-n-area, else-at-area-via-else-at-area}

pub returns-then-n-area : goal.returns-then-n-area
returns-then-n-area c =
    let a = c.args in
    let l = a.area.now in
    let long : length (take (a.at + a.n - a.at) (drop a.at l)) ≡ a.n = omega (arith, length-take (a.at + a.n - a.at) (drop a.at l), length-drop a.at l) in
    let made : c.fill.new.self ≡ replicate a.n a.x = c.fill.ensures.after (λ y e. e) ∙ ap (λ k. replicate k a.x) long in
    let whole : length (replicate a.n a.x) ≡ a.n = length-replicate a.n a.x in
    rw made (part_put l a.at (a.at + a.n) (replicate a.n a.x) (omega arith) (omega arith) ∙ sym (copied_room l a.at (replicate a.n a.x) (omega arith)))

pub returns-else-at-area : goal.returns-else-at-area
returns-else-at-area c =
    let a = c.args in
    let over : length a.area.now < a.at + a.n = elim c.else-at-area.branch [
      | else-at-area-via-then-at-area+else-n-area w ↦ omega (arith, w.if-at-area.true, w.if-n-area.false)
      | else-at-area-via-else-at-area w ↦ omega (arith, w.if-at-area.false)
    ] in
    fill_none a.area.now a.at a.n a.x over
