-- Inclusion of two markings of one table, and strength, as tests that compute: no start value has a cycle that escapes.
-- Where the test fails a lasso is found that the first marking accepts and the second does not. Assumes nothing.
use Prim.Native.Nat.{ℕ, ◌<◌}
use mathlib.Core.Path.{◌≡◌, refl}
use mathlib.Core.Bool.{Bool, not}
use mathlib.Core.Logic.{◌⊎◌, inl, inr, ◌↔◌, ⊎_elim, by_cases}
use mathlib.Core.List.{List}
use native.Mathlib.Omega.{arith}
use lib.Dec.{T}
use Rattle.finite.proofs.Tests.{T_dec, T_not, not_T}
use Rattle.finite.specs.Search.{any_below}
use Rattle.finite.proofs.Search.{any_intro, any_elim, Found}
use Rattle.theory.specs.Words.{Over, Lasso}
use Rattle.theory.specs.Rules.{Morphism, Lawful, Pairs, element, value, AllReached}
use Rattle.theory.specs.Acceptance.{Accepts, Strong}
use Rattle.theory.specs.Pairs.{LinkedOnly}
use Rattle.theory.specs.Inclusion.{Included, Witness}
use Rattle.theory.proofs.Values.{value_some, inside_of}
use Rattle.theory.proofs.Membership.{accepts_dec}
use Rattle.theory.proofs.Splits.{accepted_splits, split_accepted}
use Rattle.theory.proofs.Strength.{accepts_same, lasso_of, AllAccepted, strong_all, all_strong}
use Rattle.theory.proofs.Escapes.{Escapes}
use Rattle.theory.proofs.Closure.{closure_test, closure_intro, closure_elim, closure_linked}
use Rattle.theory.proofs.ShortWords.{ShortWord, short_word}
use Rattle.theory.proofs.Comparison.{ShortEscape, escapes_test, escapes_elim, escapes_intro}

-- no start value has a cycle that escapes
unfoldable pub included_test : Morphism → Pairs → Pairs → Bool
included_test m P P' = not (any_below m.size (escapes_test m P P'))

-- the closure is included in the marking
unfoldable pub strong_test : Morphism → Pairs → Bool
strong_test m P = included_test m (closure_test m P) P

-- a lasso that the first marking accepts and the second does not
pub record FoundWitness (m : Morphism) (P P' : Pairs) : Type 0 where
  pub start : List ℕ
  pub cycle : List ℕ
  pub witness : Witness m P P' start cycle

pub witness_refutes : {m : Morphism} {P P' : Pairs} → FoundWitness m P P' → ¬ Included m P P'
witness_refutes f i = f.witness.refused_second (i.accepted_too f.start f.cycle f.witness.lasso f.witness.accepted_first)

-- a lasso with marked values is accepted
pub marked_accepted : {m : Morphism} {P : Pairs} {u v : List ℕ} {s e : ℕ} → Over m.letters u → Over m.letters v
    → value m u ≡ element s → value m v ≡ element e → T (P s e) → Accepts m P u v
marked_accepted {m} {P} {u} {v} {s} {e} ou ov eu ev t = record {
  cycle_some = value_some m v e ev;
  start = u;
  cycle = v;
  start_over = ou;
  cycle_over = ov;
  same = λ i. refl;
  element_of_start = s;
  cycle_element = e;
  start_value = eu;
  cycle_value = ev;
  has_mark = t;
}

module _ {m : Morphism} (law : Lawful m) {P P' : Pairs} (linked : LinkedOnly m P) (linked' : LinkedOnly m P') where
  -- a lasso with values of the first marking that the second does not accept has a cycle that escapes
  refused_escapes : {u v : List ℕ} {s e : ℕ} → Over m.letters u → Over m.letters v → value m u ≡ element s → value m v ≡ element e
      → T (P s e) → ¬ Accepts m P' u v → Escapes m P P' s v
  refused_escapes {u} {v} {s} {e} ou ov eu ev t f = record {
    over = ov;
    cycle_element = e;
    cycle_value = ev;
    has_mark = t;
    no_split = λ k. f
        (split_accepted law (linked.linked s e (inside_of law ou eu) (inside_of law ov ev) t) linked' ou ov eu ev k);
  }

  -- where no cycle escapes, each accepted lasso is accepted by the second marking too
  pub none_included : ((s : ℕ) → s < m.size → (v : List ℕ) → Escapes m P P' s v → ⊥) → Included m P P'
  none_included none = record { accepted_too = λ u v l a. go u v l a }
    where
      go : (u v : List ℕ) → Lasso m.letters u v → Accepts m P u v → Accepts m P' u v
      go u v l a =
          by_cases (accepts_dec law linked' a.start_over a.cycle_over (value_some m a.cycle a.cycle_element a.cycle_value))
          (λ b. accepts_same l.cycle_some a.same b)
          (λ f. absurd (none a.element_of_start (inside_of law a.start_over a.start_value) a.cycle
          (refused_escapes a.start_over a.cycle_over a.start_value a.cycle_value a.has_mark f)))

  pub included_elim : T (included_test m P P') → Included m P P'
  unfolding included_test
  included_elim t = none_included (λ s h v e. not_T (any_below m.size (escapes_test m P P')) t
      (any_intro m.size (escapes_test m P P') s h (escapes_intro law e)))

  -- a short word of s and a short cycle that escapes there are a witness
  pub escape_witness : {s : ℕ} (u : ShortWord m s) (v : ShortEscape m P P' s) → Witness m P P' u.word v.cycle
  escape_witness {s} u v =
      let e = v.escapes in
      record {
        lasso = lasso_of m u.over e.over u.its_value e.cycle_value;
        start_some = omega (arith, value_some m u.word s u.its_value);
        start_short = omega (arith, u.short);
        cycle_short = omega (arith, v.short);
        accepted_first = marked_accepted u.over e.over u.its_value e.cycle_value e.has_mark;
        refused_second = λ a. e.no_split
            (accepted_splits law
            (linked.linked s e.cycle_element (inside_of law u.over u.its_value) (inside_of law e.over e.cycle_value) e.has_mark)
            linked' u.over e.over u.its_value e.cycle_value a);
      }

  module _ (reached : AllReached m) where
    -- where the test fails, a witness is found
    pub included_refuted : ¬ T (included_test m P P') → FoundWitness m P P'
    unfolding included_test
    included_refuted f =
        ⊎_elim (λ t. found (any_elim m.size (escapes_test m P P') t))
        (λ none. absurd (f (T_not (any_below m.size (escapes_test m P P')) none))) (T_dec (any_below m.size (escapes_test m P P')))
      where
        found : Found m.size (escapes_test m P P') → FoundWitness m P P'
        found k =
            let u = short_word law (reached.word_of k.at k.below) in
            let v = escapes_elim law P P' k.at k.holds in
            record { start = u.word; cycle = v.cycle; witness = escape_witness u v }

    -- the first marking is included in the second, or a witness is found
    pub included_or_witness : Included m P P' ⊎ FoundWitness m P P'
    included_or_witness = ⊎_elim (λ t. inl (included_elim t)) (λ f. inr (included_refuted f)) (T_dec (included_test m P P'))

    -- the test says whether the first marking is included in the second
    pub included_iff : T (included_test m P P') ↔ Included m P P'
    included_iff =
        (included_elim, λ i. ⊎_elim (λ t. t) (λ f. absurd (witness_refutes (included_refuted f) i)) (T_dec (included_test m P P')))

    pub included_dec : Dec (Included m P P')
    included_dec = ⊎_elim (λ i. yes i) (λ w. no (witness_refutes w)) included_or_witness

-- every lasso with values in the closure is accepted exactly if the closure is included in the marking
included_all : {m : Morphism} {P : Pairs} → Included m (closure_test m P) P → AllAccepted m P
included_all {m} i = record {
  accepted = λ {s} {e} {u} {v} c ou ov eu ev. i.accepted_too u v (lasso_of m ou ov eu ev) (marked_accepted ou ov eu ev (closure_intro c));
}

all_included : {m : Morphism} {P : Pairs} → Lawful m → LinkedOnly m P → AllAccepted m P → Included m (closure_test m P) P
all_included law linked all = record {
  accepted_too = λ u v l a. accepts_same l.cycle_some a.same
      (all.accepted (closure_elim law linked a.element_of_start a.cycle_element a.has_mark) a.start_over a.cycle_over a.start_value a.cycle_value);
}

module _ {m : Morphism} (law : Lawful m) {P : Pairs} (linked : LinkedOnly m P) where
  -- a marking that has every pair of its closure is strong
  pub closed_marks_strong : ((s e : ℕ) → s < m.size → e < m.size → T (closure_test m P s e) → T (P s e)) → Strong m P
  closed_marks_strong f = all_strong law linked (record {
    accepted = λ {s} {e} c ou ov eu ev. marked_accepted ou ov eu ev (f s e (inside_of law ou eu) (inside_of law ov ev) (closure_intro c));
  })

  -- a marking that includes its closure is strong
  pub included_strong : Included m (closure_test m P) P → Strong m P
  included_strong i = all_strong law linked (included_all i)

  -- and a strong one includes it
  pub strong_included : AllReached m → Strong m P → Included m (closure_test m P) P
  strong_included reached strong = all_included law linked (strong_all law linked reached strong)

  -- a marking that passes is strong
  pub strong_test_elim : T (strong_test m P) → Strong m P
  unfolding strong_test
  strong_test_elim t = included_strong (included_elim law (closure_linked m P) linked t)

  module _ (reached : AllReached m) where
    -- and a strong marking passes
    pub strong_test_intro : Strong m P → T (strong_test m P)
    unfolding strong_test
    strong_test_intro strong =
        (included_iff law (closure_linked m P) linked reached).1 (strong_included reached strong)

    pub strong_iff : T (strong_test m P) ↔ Strong m P
    strong_iff = (strong_test_elim, strong_test_intro)

    -- strength is decided
    pub strong_dec : Dec (Strong m P)
    strong_dec =
        ⊎_elim (λ t. yes (strong_test_elim t)) (λ f. no (λ strong. f (strong_test_intro strong))) (T_dec (strong_test m P))
