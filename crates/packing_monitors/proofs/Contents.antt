-- What a number holds tells the answer: two answers that hold the same are one. Assumes nothing.
use Prim.Native.Nat.{◌+◌, ◌*◌, ◌<◌}
use mathlib.Core.Path.{◌≡◌, sym, ap, ◌∙◌}
use native.Mathlib.Omega.{arith}
use Rattle.answer.proofs.Verdicts.{same_refusal}
use Rattle.promises.specs.declared.Monitor.{Monitor}
use Rattle.promises.specs.declared.Moved.{Moved}
use Rattle.promises.specs.declared.Moved.TheVariants.{To, Refused as Not-moved}
use Rattle.promises.specs.declared.Advanced.{Advanced}
use Rattle.promises.specs.declared.Advanced.TheVariants.{To as Advanced-to, Refused as Not-advanced}
use Rattle.promises.specs.Moves.{HandsBack}
use Rattle.packing.proofs.Contents.{verdict_of_lem}
use Rattle.packing_monitors.specs.Monitors.{monitor_contents, moved_contents, advanced_contents}

monitor_told : (f g : Monitor) → monitor_contents f ≡ monitor_contents g → f ≡ g
monitor_told f g e =
    let before : f.before ≡ g.before = cc in
    let since : f.since ≡ g.since = cc in
    λ i. record { before = before i; since = since i }

-- of one monitor, which a refusal hands back
pub moved_told : (f next next' : Monitor) (x y : Moved) → HandsBack f next x → HandsBack f next' y → moved_contents x ≡ moved_contents y → x ≡ y
moved_told f next next' (To g) (To g') p q e = ap To (monitor_told g g' e)
moved_told f next next' (To g) (Not-moved g' r i place) p q e = cc
moved_told f next next' (Not-moved g r i place) (To g') p q e = cc
moved_told f next next' (Not-moved g r i place) (Not-moved g' r' i' place') p q e =
    ap (λ (h : Monitor). Not-moved h r i place) (p ∙ sym q) ∙ same_refusal (Not-moved g') r r' i i' place place' (verdict_of_lem e)

-- a grade that fits beside the turns, or the monitor that a refusal hands back
abbrev pub Held : Monitor → Advanced → Type 0
Held f (Advanced-to g grade turns) = grade < 256
Held f (Not-advanced g r i place) = g ≡ f

pub advanced_told : (f : Monitor) (x y : Advanced) → Held f x → Held f y → advanced_contents x ≡ advanced_contents y → x ≡ y
advanced_told f (Advanced-to g grade turns) (Advanced-to g' grade' turns') p q e =
    let before : g.before ≡ g'.before = cc in
    let since : g.since ≡ g'.since = cc in
    let third : grade + 256 * turns ≡ grade' + 256 * turns' = cc in
    let grades : grade ≡ grade' = omega arith in
    let settled : turns ≡ turns' = omega arith in
    λ i. Advanced-to (record { before = before i; since = since i }) (grades i) (settled i)
advanced_told f (Advanced-to g grade turns) (Not-advanced g' r i place) p q e = cc
advanced_told f (Not-advanced g r i place) (Advanced-to g' grade turns) p q e = cc
advanced_told f (Not-advanced g r i place) (Not-advanced g' r' i' place') p q e =
    ap (λ (h : Monitor). Not-advanced h r i place) (p ∙ sym q) ∙ same_refusal (Not-advanced g') r r' i i' place place' (verdict_of_lem e)
