-- Paths of words, joined and split: a path of one word after another is a path of the first to some state and a path of the
-- second from there, and it meets a final state exactly if one of the two does. Assumes nothing.
use Prim.Native.Nat.{ℕ, ◌<◌}
use mathlib.Core.List.{List, [], ◌∷◌, ◌++◌}
use mathlib.Core.Logic.{◌⊎◌, inl, inr, ⊎_elim}
use lib.Dec.{T}
use Rattle.buchi.specs.Automata.{Automaton, WordPath, path_end, path_step, FinalPath, final_here, final_later}

-- the ends of a path are states
pub path_from : {a : Automaton} {w : List ℕ} {p q : ℕ} → WordPath a w p q → p < a.states
path_from (path_end h) = h
path_from (path_step h s d) = h

pub path_to : {a : Automaton} {w : List ℕ} {p q : ℕ} → WordPath a w p q → q < a.states
path_to (path_end h) = h
path_to (path_step h s d) = path_to d

-- a path that meets a final state is a path
pub final_path : {a : Automaton} {w : List ℕ} {p q : ℕ} → FinalPath a w p q → WordPath a w p q
final_path (final_here f d) = d
final_path (final_later h s d) = path_step h s (final_path d)

-- the end counts: a path to a final state meets it
pub final_end : {a : Automaton} {w : List ℕ} {p q : ℕ} → WordPath a w p q → T (a.final q) → FinalPath a w p q
final_end (path_end h) f = final_here f (path_end h)
final_end (path_step h s d) f = final_later h s (final_end d f)

-- ---- one path after another

pub path_append : {a : Automaton} {x y : List ℕ} {p r q : ℕ} → WordPath a x p r → WordPath a y r q → WordPath a (x ++ y) p q
path_append (path_end h) e = e
path_append (path_step h s d) e = path_step h s (path_append d e)

-- the first path meets a final state
pub final_append_first : {a : Automaton} {x y : List ℕ} {p r q : ℕ} → FinalPath a x p r → WordPath a y r q → FinalPath a (x ++ y) p q
final_append_first (final_here f d) e = final_here f (path_append d e)
final_append_first (final_later h s d) e = final_later h s (final_append_first d e)

-- the second path does
pub final_append_second : {a : Automaton} {x y : List ℕ} {p r q : ℕ} → WordPath a x p r → FinalPath a y r q → FinalPath a (x ++ y) p q
final_append_second (path_end h) e = e
final_append_second (path_step h s d) e = final_later h s (final_append_second d e)

-- ---- a path of one word after another

-- the state between the two words
pub record PathSplit (a : Automaton) (x y : List ℕ) (p q : ℕ) : Type 0 where
  pub middle : ℕ
  pub first : WordPath a x p middle
  pub second : WordPath a y middle q

pub path_split : {a : Automaton} {p q : ℕ} (x y : List ℕ) → WordPath a (x ++ y) p q → PathSplit a x y p q
path_split {p = p} [] y d = record { middle = p; first = path_end (path_from d); second = d }
path_split (c ∷ x) y (path_step h s d) =
    let k = path_split x y d in
    record { middle = k.middle; first = path_step h s k.first; second = k.second }

-- the state between the two words, and which of the two paths meets a final state
pub record FinalSplit (a : Automaton) (x y : List ℕ) (p q : ℕ) : Type 0 where
  pub middle : ℕ
  pub first : WordPath a x p middle
  pub second : WordPath a y middle q
  pub meets : FinalPath a x p middle ⊎ FinalPath a y middle q

-- a final state at the beginning
split_here : {a : Automaton} {x y : List ℕ} {p q : ℕ} → T (a.final p) → PathSplit a x y p q → FinalSplit a x y p q
split_here f k = record { middle = k.middle; first = k.first; second = k.second; meets = inl (final_here f k.first) }

pub final_split : {a : Automaton} {p q : ℕ} (x y : List ℕ) → FinalPath a (x ++ y) p q → FinalSplit a x y p q
final_split {p = p} [] y d = record { middle = p; first = path_end (path_from (final_path d)); second = final_path d; meets = inr d }
final_split (c ∷ x) y (final_here f d) = split_here f (path_split (c ∷ x) y d)
final_split (c ∷ x) y (final_later h s d) =
    let k = final_split x y d in
    record {
      middle = k.middle;
      first = path_step h s k.first;
      second = k.second;
      meets = ⊎_elim (λ e. inl (final_later h s e)) (λ e. inr e) k.meets;
    }
