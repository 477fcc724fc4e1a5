-- What an operation leaves on the stack of formulas, from what its steps leave in the slots. Assumes nothing.
use Prim.Native.Nat.{ℕ, ◌+◌, ◌-◌, min, ◌≤◌, ◌<◌}
use mathlib.Core.Path.{◌≡◌, sym, subst}
use mathlib.Core.Bool.{true, false}
use mathlib.Core.List.{List, [], ◌∷◌}
use native.Mathlib.Omega.{arith}
use lib.ListN.{length}
use Rattle.std.specs.Prelude.{Result, Ok, IsOk}
use Rattle.answer.specs.declared.Refusal.{Refusal}
use Rattle.answer.specs.Checks.{FirstFailure}
use Rattle.answer.proofs.Order.{none_left}
use Rattle.temporal.specs.Formulas.{Formula}
use Rattle.board_promises.specs.Boards.{file_at}
use Rattle.promises.specs.declared.Written.{Written}
use Rattle.promises.specs.declared.Written.TheVariants.{Rule as Is-rule, Refused as Not-written}
use Rattle.formula_promises.specs.Operations.{One, op_not, Two, push_set, push_constant, push_copy, on_one, on_two, small, below, made_of_one, made_of_two, stack_after}
use Rattle.formula_promises.specs.Checks.{Making, makings_of_one, makings_of_two, makings, making_checks}
use Rattle.formula_promises.specs.Values.{meant}
use Rattle.formula_promises.specs.declared.Operation as declared
use Rattle.formula_slots.specs.Slots.{ReductionFile, Standing, one_more}
use Rattle.formula_slots.specs.Kept.{OthersKept}
use Rattle.formula_slots.proofs.Stands.{standing_top, standing_rest, standing_kept, standing_below}
use Rattle.formula_makings.specs.Makings.{Made}
use Rattle.formula_pushes.specs.Pushes.{SetFile, ConstantFile, Copied}
use Rattle.formula_steps.specs.Steps.{Negated, OneStep, TwoStep}
use Rattle.formula_derived.specs.Derived.{KeptBelow}
use Rattle.formula_operations.specs.Applying.{applied_verdict, OperationApplied}
use Rattle.formula_operations.specs.Groups.{applied_of, MadeOrTold, OneApplied, TwoApplied}

-- what stands below the slots that a step touches
pub below_others : {entry exit : List ℕ} {a b slot : ℕ} → OthersKept a b entry exit → slot ≤ a → slot ≤ b → KeptBelow slot entry exit
below_others k p q = record { below = λ i h. k.others i (λ e. omega arith) (λ e. omega arith) }

-- what a step made, as an operation tells it
made_told : {letters : ℕ} {list : List Making} {Outcome : Type 0} (made : Written) {answer : Result Unit Refusal} → Made letters list Outcome made → answer ≡ applied_of made
    → MadeOrTold letters list Outcome answer
made_told {letters} {list} {Outcome} made m e = subst (MadeOrTold letters list Outcome) (sym e) (go made m)
  where
    go : (w : Written) → Made letters list Outcome w → MadeOrTold letters list Outcome (applied_of w)
    go (Is-rule end) n = record { checked = n.checked; result = λ done. n.result tt }
    go (Not-written refusal input place) n = record { checked = n.checked; result = λ done. absurd (let z : false ≡ true = done in cc) }

module _ {letters : ℕ} {entry exit : List ℕ} where
  pub one_told : {operation operation' : One} {slot : ℕ} (made : Written) {answer : Result Unit Refusal} → operation' ≡ operation → OneStep letters operation slot entry exit made → answer ≡ applied_of made
      → OneApplied letters operation' slot entry exit answer
  one_told {slot = slot} made {answer} same step e =
      subst (λ (o : One). OneApplied letters o slot entry exit answer) (sym same) (record { made = λ f r. made_told made (step.made f r) e })

  pub two_told : {operation operation' : Two} {first second : ℕ} (made : Written) {answer : Result Unit Refusal} → operation' ≡ operation → TwoStep letters operation first second first entry exit made
      → answer ≡ applied_of made → TwoApplied letters operation' first second entry exit answer
  two_told {first = first} {second} made {answer} same step e =
      subst (λ (o : Two). TwoApplied letters o first second entry exit answer) (sym same) (record { made = λ f g r s. made_told made (step.made f g r s) e })

  -- a negation is not refused
  pub not_told : {operation' : One} {slot : ℕ} → operation' ≡ op_not → Negated slot entry exit → OneApplied letters operation' slot entry exit (Ok tt)
  unfolding makings_of_one made_of_one making_checks
  not_told {slot = slot} same n =
      subst (λ (o : One). OneApplied letters o slot entry exit (Ok tt)) (sym same)
      (record { made = λ f r. record { checked = λ at. none_left; result = λ done. n.made letters f r } })

  -- ---- on the stack of formulas

  -- on its top
  module _ {operation : One} {slot height : ℕ} {answer : Result Unit Refusal} (top : height ≡ slot + 1) (a : OneApplied letters operation slot entry exit answer) (kept : KeptBelow slot entry exit) where
    own_file : (f : Formula) (rest : List Formula) → length (f ∷ rest) ≡ height → Standing letters entry (f ∷ rest) → ReductionFile letters f (file_at entry slot)
    own_file f rest e s = subst (λ (i : ℕ). ReductionFile letters f (file_at entry i)) (let z : length rest ≡ slot = omega arith in z) (standing_top s)

    pub one_applied : OperationApplied letters (on_one operation) height entry exit answer
    unfolding makings stack_after
    one_applied = record { checked = check; stands = stand }
      where
        check : (stack : List Formula) → length stack ≡ height → Standing letters entry stack → (at : ℕ) → FirstFailure (making_checks letters at (makings (on_one operation) stack)) (applied_verdict at answer)
        check [] e s at = absurd (let z : ⊥ = omega arith in z)
        check (f ∷ rest) e s at = (a.made f (own_file f rest e s)).checked at

        stand : IsOk answer → (stack : List Formula) → length stack ≡ height → Standing letters entry stack → Standing letters exit (stack_after (on_one operation) stack)
        stand done [] e s = absurd (let z : ⊥ = omega arith in z)
        stand done (f ∷ rest) e s =
            one_more (subst (λ (i : ℕ). ReductionFile letters (made_of_one operation f) (file_at exit i)) (let z : slot ≡ length rest = omega arith in z) ((a.made f (own_file f rest e s)).result done))
            (standing_kept rest (λ i h. kept.below i (omega arith)) (standing_rest s))

  -- on its top two, of which the top is the second
  module _ {operation : Two} {first second height : ℕ} {answer : Result Unit Refusal} (above : second ≡ first + 1) (top : height ≡ second + 1) (a : TwoApplied letters operation first second entry exit answer)
      (kept : KeptBelow first entry exit) where
    pair_made : (g f : Formula) (rest : List Formula) → length (g ∷ f ∷ rest) ≡ height → Standing letters entry (g ∷ f ∷ rest)
        → MadeOrTold letters (makings_of_two operation f g) (ReductionFile letters (made_of_two operation f g) (file_at exit first)) answer
    pair_made g f rest e s =
        a.made f g
        (subst (λ (i : ℕ). ReductionFile letters f (file_at entry i)) (let z : length rest ≡ first = omega arith in z) (standing_top (standing_rest s)))
        (subst (λ (i : ℕ). ReductionFile letters g (file_at entry i)) (let z : length (f ∷ rest) ≡ second = omega arith in z) (standing_top s))

    pub two_applied : OperationApplied letters (on_two operation) height entry exit answer
    unfolding makings stack_after
    two_applied = record { checked = check; stands = stand }
      where
        check : (stack : List Formula) → length stack ≡ height → Standing letters entry stack → (at : ℕ) → FirstFailure (making_checks letters at (makings (on_two operation) stack)) (applied_verdict at answer)
        check [] e s at = absurd (let z : ⊥ = omega arith in z)
        check (g ∷ []) e s at = absurd (let z : ⊥ = omega arith in z)
        check (g ∷ f ∷ rest) e s at = (pair_made g f rest e s).checked at

        stand : IsOk answer → (stack : List Formula) → length stack ≡ height → Standing letters entry stack → Standing letters exit (stack_after (on_two operation) stack)
        stand done [] e s = absurd (let z : ⊥ = omega arith in z)
        stand done (g ∷ []) e s = absurd (let z : ⊥ = omega arith in z)
        stand done (g ∷ f ∷ rest) e s =
            one_more (subst (λ (i : ℕ). ReductionFile letters (made_of_two operation f g) (file_at exit i)) (let z : first ≡ length rest = omega arith in z) ((pair_made g f rest e s).result done))
            (standing_kept rest (λ i h. kept.below i (omega arith)) (standing_rest (standing_rest s)))

  -- above it
  module _ {height : ℕ} (kept : OthersKept height height entry exit) where
    pushed : (new : Formula) (list : List Formula) → length list ≡ height → ReductionFile letters new (file_at exit height) → Standing letters entry list → Standing letters exit (new ∷ list)
    pushed new list e r s =
        one_more (subst (λ (i : ℕ). ReductionFile letters new (file_at exit i)) (sym e) r) (standing_kept list (λ i h. kept.others i (λ p. omega arith) (λ p. omega arith)) s)

    pub set_applied : {members rank : ℕ} → SetFile letters members rank (file_at exit height) → {set grade : ℕ} → members ≡ set → rank ≡ grade → grade ≤ 3
        → OperationApplied letters (push_set set grade) height entry exit (Ok tt)
    unfolding makings making_checks stack_after
    set_applied {rank = rank} file {grade = grade} m r low = record {
      checked = λ stack e s at. none_left;
      stands = λ done stack e s.
          let own = subst (λ (x : ℕ). SetFile letters x rank (file_at exit height)) m file in
          pushed _ stack e (own.made (min grade 3) (small grade) (omega arith)) s;
    }

    pub constant_applied : {rank : ℕ} → ConstantFile letters rank (file_at exit height) → {grade : ℕ} → rank ≡ grade → grade ≤ 3
        → OperationApplied letters (push_constant grade) height entry exit (Ok tt)
    unfolding makings making_checks stack_after
    constant_applied file {grade} r low = record {
      checked = λ stack e s at. none_left;
      stands = λ done stack e s. pushed _ stack e (file.made (min grade 3) (small grade) (omega arith)) s;
    }

    pub copy_applied : {from : ℕ} → Copied (file_at entry from) (file_at exit height) → {d : ℕ} → from ≡ height - 1 - d → d < height
        → OperationApplied letters (push_copy d) height entry exit (Ok tt)
    unfolding makings making_checks stack_after
    copy_applied file {d} f low = record {
      checked = λ stack e s at. none_left;
      stands = λ done stack e s.
          let copy = subst (λ (n : ℕ). Copied (file_at entry n) (file_at exit height)) f file in
          let own : ReductionFile letters (below d stack) (file_at entry (height - 1 - d)) =
          subst (λ (n : ℕ). ReductionFile letters (below d stack) (file_at entry (n - 1 - d))) e (standing_below d stack (omega arith) s) in
          pushed (below d stack) stack e (subst (ReductionFile letters (below d stack)) (sym (copy.same own.shape)) own) s;
    }

-- what the operation that a value stands for leaves
pub applied_as : {letters height : ℕ} {entry exit : List ℕ} {answer : Result Unit Refusal} {operation known : declared.Operation} → operation ≡ known
    → OperationApplied letters (meant known) height entry exit answer → OperationApplied letters (meant operation) height entry exit answer
applied_as {letters} {height} {entry} {exit} {answer} e a = subst (λ (o : declared.Operation). OperationApplied letters (meant o) height entry exit answer) (sym e) a
