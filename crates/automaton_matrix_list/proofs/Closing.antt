-- The list while its matrices are multiplied with the letters' one after the other: when the last one was, the list has the matrices of all
-- non-empty words. Assumes nothing.
use Rattle.std.proofs.Common.{Option, Some, None}
use Prim.Native.Nat.{ℕ, zero, suc, ◌+◌, ◌≤◌, ◌<◌}
use mathlib.Core.Path.{◌≡◌, sym, subst}
use mathlib.Core.List.{List}
use native.Mathlib.Omega.{arith}
use Rattle.finite.proofs.FirstWords.{sooner_parent}
use Rattle.buchi.specs.Automata.{Automaton}
use Rattle.buchi.specs.Matrices.{Matrix, SameEntries, OtherEntry, product}
use Rattle.buchi.proofs.Products.{product_same, same_refl, same_sym, same_trans}
use Rattle.buchi.proofs.WordMatrices.{letter_matrix}
use Rattle.buchi.proofs.MatrixLists.{Among, ClosedList, step_matrix, FoundInOrder}
use Rattle.automaton_matrices.specs.Bytes.{letter_entry}
use Rattle.automaton_matrices.proofs.Letters.{stands_letter}
use Rattle.automaton_matrix_search.specs.Lists.{matrix_at, next_at, parent_at, letter_at, ListNeeds, StandsHere, Kept, step_entry, StepNumber, MatricesAnswer}
use Rattle.automaton_matrix_search.specs.Steps.{StepsTaken, Following, FollowAnswer, Followed, LetterList, SearchAt, Multiplied, MultipliedFull, MultiplyAnswer, ProductsAdded, ListClosed}
use Rattle.scratch.proofs.Unchanged.{unchanged_none, unchanged_both}
use Rattle.automaton_matrix_search.proofs.Growing.{among_same, here_kept, place_kept}
use Rattle.automaton_matrix_list.proofs.Order.{step_among}
use Rattle.automaton_matrix_list.proofs.Following.{rich_kept, entry_taken, taken_from}

-- every matrix was multiplied
module _ {kinds : List ℕ} {n k : ℕ} {entry now : List ℕ} {count from : ℕ} (s : StepsTaken kinds n k entry now count (from + 1) 0) (done : count ≤ from) where
  numbers : (p x : ℕ) → p ≤ count → x < k → StepNumber kinds n now count p x (next_at now p x)
  numbers p x b l = s.steps p x (sooner_parent (omega arith)) l

  module _ (t : Automaton) (h : StandsHere t kinds n k now) where
    letter_of_lem : (x : ℕ) → x < t.letters → SameEntries n (letter_entry kinds now x) (letter_matrix t x)
    letter_of_lem x l = subst (λ c. SameEntries c (letter_entry kinds now x) (letter_matrix t x)) h.states (same_sym (stands_letter h.stands x l))

    in_states : {M : Matrix} {j : ℕ} → Among n j (matrix_at now) M → Among t.states j (matrix_at now) M
    in_states {M} {j} a = subst (λ c. Among c j (matrix_at now) M) (sym h.states) a

    a_letter : (x : ℕ) → x < t.letters → x < k
    a_letter x l = subst (λ c. x < c) h.letters l

    -- a step of the search is that of the automaton
    step_same : (p x : ℕ) → x < t.letters → SameEntries t.states (step_entry kinds n now p x) (step_matrix t (matrix_at now) p x)
    unfolding step_entry step_matrix
    step_same zero x l = subst (λ c. SameEntries c (letter_entry kinds now x) (letter_matrix t x)) (sym h.states) (letter_of_lem x l)
    step_same (suc i) x l =
        subst (λ c. SameEntries c (product n (matrix_at now i) (letter_entry kinds now x)) (product c (matrix_at now i) (letter_matrix t x))) (sym h.states)
        (product_same same_refl (letter_of_lem x l))

    every_step : (p x : ℕ) → p ≤ count → x < t.letters → Among t.states count (matrix_at now) (step_matrix t (matrix_at now) p x)
    every_step p x b l = among_same (step_same p x l) (in_states (step_among (numbers p x b (a_letter x l))))

    found_in_order : FoundInOrder t count (matrix_at now)
    found_in_order = record {
      found = λ j b.
          let f = s.found j b in
          let p = parent_at now j in
          let x = letter_at now j in
          let l : x < t.letters = subst (λ c. x < c) (sym h.letters) f.made.letter_lt in
          record {
            parent = p;
            letter = x;
            found = record {
              parent_before = f.made.parent_before;
              letter_lt = l;
              same = same_trans (same_sym (step_same p x l)) (subst (λ c. SameEntries c (step_entry kinds n now p x) (matrix_at now j)) (sym h.states) f.made.same);
              sooner = λ q y e r. among_same (step_same q y r) (in_states (f.sooner q y e (a_letter y r)));
            };
          };
    }

    closed_list : ClosedList t count (matrix_at now)
    unfolding step_matrix
    closed_list = record {
      words = λ i b. (s.words.words i b).word t h;
      apart = λ i j b d f. subst (λ c. OtherEntry c (matrix_at now i) (matrix_at now j)) (sym h.states) (s.words.list.apart i j b d f);
      letters = λ x l. every_step 0 x (omega arith) l;
      steps = λ i x b l. every_step (suc i) x (omega arith) l;
    }

  all_listed : 1 ≤ k → MatricesAnswer kinds n k entry now (Some count)
  all_listed some = record {
    kept = s.kept;
    says = record {
      some = let first = numbers 0 0 (omega arith) (omega arith) in omega (arith, first.below);
      list = s.words.list;
      recorded = record { steps = numbers; sources = λ j b. (s.found j b).made };
      closed = λ t h. closed_list t (here_kept s.kept h);
      in_order = λ t h. found_in_order t (here_kept s.kept h);
    };
  }

-- ---- one matrix after the other

-- the letters were followed from the empty word and from the first `from` matrices of the list
pub record Closing (n k : ℕ) (entry : List ℕ) (begun : ℕ) (now : List ℕ) (count from : ℕ) : Type 0 where
  pub kept : Kept entry now
  pub letters : LetterList n k now count
  pub within : from ≤ count
  pub taken : (kinds : List ℕ) → SearchAt n k entry begun 1 kinds → StepsTaken kinds n k entry now count (from + 1) 0

pub closing_start : {n k begun : ℕ} {entry : List ℕ} → LetterList n k entry begun → Closing n k entry begun entry begun 0
closing_start l = record { kept = unchanged_none _ _ _; letters = l; within = omega arith; taken = λ kinds s. s.taken }

module _ {n k : ℕ} {entry : List ℕ} {begun : ℕ} {now : List ℕ} {count from : ℕ} (s : Closing n k entry begun now count from) where
  pub closing_few : from ≤ 64
  closing_few = let h = s.within in omega (arith, s.letters.list.few)

  -- the search as it stands now
  search_now : {kinds : List ℕ} → SearchAt n k entry begun 1 kinds → SearchAt n k now count (from + 1) kinds
  search_now {kinds} e =
      let t = s.taken kinds e in
      record { place = place_kept s.kept e.place; taken = record { kept = unchanged_none _ _ _; words = t.words; steps = t.steps; found = t.found } }

  -- one matrix more was multiplied
  pub closing_next : {next : List ℕ} {total : ℕ} {answer : Option ℕ} → from < count → ProductsAdded n k now count (from + 1) next answer → answer ≡ Some total
      → Closing n k entry begun next total (from + 1)
  closing_next {next} {total} h a e =
      let r : Multiplied n k now count (from + 1) next total k = subst (MultiplyAnswer n k now count (from + 1) next) e a.says in
      let more = r.grown.more in
      record {
        kept = unchanged_both s.kept a.kept;
        letters = r.letters;
        within = omega arith;
        taken = λ kinds f. taken_from s.kept (entry_taken (omega arith) (r.following kinds (search_now f)).taken);
      }

  -- or there are too many
  pub closing_full : {next : List ℕ} {answer : Option ℕ} → ProductsAdded n k now count (from + 1) next answer → answer ≡ None → ListClosed n k entry begun next None
  closing_full {next} a e =
      let r : MultipliedFull n k now count (from + 1) = subst (MultiplyAnswer n k now count (from + 1) next) e a.says in
      let kept = unchanged_both s.kept a.kept in
      record { kept = kept; closed = λ kinds f. record { kept = kept; says = rich_kept s.kept (r.rich kinds (search_now f)) } }

  pub closing_done : 1 ≤ k → count ≤ from → ListClosed n k entry begun now (Some count)
  closing_done some done = record { kept = s.kept; closed = λ kinds f. all_listed (s.taken kinds f) done some }

-- ---- the letters first

module _ {kinds : List ℕ} {n k : ℕ} {entry now : List ℕ} {answer : Option ℕ} (place : ListNeeds kinds n k entry) (a : Followed kinds n k entry 0 0 now answer) where
  begun_taken : {begun : ℕ} → answer ≡ Some begun → StepsTaken kinds n k now now begun 1 0
  begun_taken {begun} e =
      let r : Following kinds n k entry 0 0 now begun k = subst (FollowAnswer kinds n k entry 0 0 now) e a.says in
      let t : StepsTaken kinds n k entry now begun 1 0 = entry_taken (omega arith) r.taken in
      record { kept = unchanged_none _ _ _; words = t.words; steps = t.steps; found = t.found }

  pub begun_list : {begun : ℕ} → answer ≡ Some begun → LetterList n k now begun
  begun_list {begun} e =
      let t : StepsTaken kinds n k now now begun 1 0 = begun_taken e in
      record { few_letters = place.few_letters; list = t.words.list; letters = λ x h. (t.steps 0 x (sooner_parent (omega arith)) h).below }

  pub begun_full : answer ≡ None → MatricesAnswer kinds n k entry now None
  begun_full e = record { kept = a.kept; says = subst (FollowAnswer kinds n k entry 0 0 now) e a.says }

  -- what holds of the list that the letters began holds from the start
  from_start : {exit : List ℕ} {last : Option ℕ} → MatricesAnswer kinds n k now exit last → MatricesAnswer kinds n k entry exit last
  from_start {last = Some count} r = record {
    kept = unchanged_both a.kept r.kept;
    says = record {
      some = r.says.some;
      list = r.says.list;
      recorded = r.says.recorded;
      closed = λ t h. r.says.closed t (here_kept a.kept h);
      in_order = λ t h. r.says.in_order t (here_kept a.kept h);
    };
  }
  from_start {last = None} r = record { kept = unchanged_both a.kept r.kept; says = rich_kept a.kept r.says }

  pub begun_done : {begun : ℕ} {exit : List ℕ} {last : Option ℕ} → answer ≡ Some begun → ListClosed n k now begun exit last → MatricesAnswer kinds n k entry exit last
  begun_done e r = from_start (r.closed kinds (record { place = place_kept a.kept place; taken = begun_taken e }))
