-- A board and files that agree with some deeds: under each name they hold what stands there by the deeds. Assumes nothing.
use Prim.Native.Nat.{ℕ, ◌<◌}
use mathlib.Core.Path.{◌≡◌, refl, sym, ◌∙◌, subst}
use mathlib.Core.Bool.{true, false}
use mathlib.Core.Logic.{⊎_elim, inl, inr}
use mathlib.Core.List.{List}
use native.Mathlib.Omega.{arith}
use Rattle.theory.specs.Grades.{StrongMarking, LassosGraded}
use Rattle.formats.specs.RuleFile.{morphism_of, marking_of}
use Rattle.formats.proofs.GoodRule.{GoodRule}
use Rattle.promises.specs.declared.Monitor.{Monitor}
use Rattle.promises.specs.Monitor.{no_value, value_of}
use Rattle.promises.specs.Histories.{Action, Follows}
use Rattle.board_promises.specs.declared.Board.{Board}
use Rattle.board_promises.specs.Boards.{board_names_count, file_at, present_at, monitor_at, with_lowest, Counting, SomeCounting, LowestGrade}
use Rattle.board_promises.specs.Promises.{BoardBecomes}
use Rattle.board_promises.specs.Monitors.{Whole}
use Rattle.board_histories.specs.Histories.{Deed, Standing, nobody, stands, standing}

-- a strong rule is present with its file, and its monitor has the values of the history
pub record Present (b : Board) (files : List ℕ) (i : ℕ) (file : List ℕ) (history : List Action) : Type 0 where
  pub there : present_at b i ≡ true
  pub its_file : file_at files i ≡ file
  pub good : GoodRule file
  pub strong : StrongMarking (morphism_of file) (marking_of file)
  pub follows : Follows file (monitor_at b i) history

-- nobody is present where nobody stands
pub data Holds (b : Board) (files : List ℕ) (i : ℕ) : Standing → Type 0 where
  holds_nobody : present_at b i ≡ false → Holds b files i nobody
  holds_rule : {file : List ℕ} {history : List Action} → Present b files i file history → Holds b files i (stands file history)

pub record NamesAgree (b : Board) (files : List ℕ) (log : List Deed) : Type 0 where
  pub whole : Whole b
  pub holds : (i : ℕ) → i < board_names_count → Holds b files i (standing log i)

-- with the lowest grade
pub record BoardAgrees (b : Board) (files : List ℕ) (log : List Deed) : Type 0 where
  pub names : NamesAgree b files log
  pub lowest : LowestGrade b files b.lowest

-- a flag is not both
pub not_both : (b : Board) (i : ℕ) → present_at b i ≡ true → present_at b i ≡ false → ⊥
not_both b i p q = let z : ◌≡◌ {A = ℕ} 0 1 = cc in omega arith

-- a name's file and monitor are the same on two boards, if it is present
pub record SameName (b : Board) (files : List ℕ) (b' : Board) (files' : List ℕ) (i : ℕ) : Type 0 where
  pub flags : present_at b' i ≡ present_at b i
  pub monitors : monitor_at b' i ≡ monitor_at b i
  pub same_file : present_at b i ≡ true → file_at files' i ≡ file_at files i

module _ {b : Board} {files : List ℕ} {b' : Board} {files' : List ℕ} where
  pub same_back : {i : ℕ} → SameName b files b' files' i → SameName b' files' b files i
  same_back s = record { flags = sym s.flags; monitors = sym s.monitors; same_file = λ there. sym (s.same_file (sym s.flags ∙ there)) }

  pub same_holds : {i : ℕ} {x : Standing} → SameName b files b' files' i → Holds b files i x → Holds b' files' i x
  same_holds s (holds_nobody e) = holds_nobody (s.flags ∙ e)
  same_holds s (holds_rule {file} {history} p) = holds_rule (record {
    there = s.flags ∙ p.there;
    its_file = s.same_file p.there ∙ p.its_file;
    good = p.good;
    strong = p.strong;
    follows = subst (λ (f : Monitor). Follows file f history) (sym s.monitors) p.follows;
  })

  -- so it counts on both, with one grade
  same_counting : {i h : ℕ} → SameName b files b' files' i → Counting b files i h → Counting b' files' i h
  same_counting {i} {h} s c = record {
    named = c.named;
    there = s.flags ∙ c.there;
    has_since = subst (λ (f : Monitor). f.since ≡ no_value → ⊥) (sym s.monitors) c.has_since;
    graded =
        subst (λ (f : Monitor). LassosGraded (morphism_of (file_at files' i)) (marking_of (file_at files' i)) (value_of f.before) f.since h) (sym s.monitors)
        (subst (λ (file : List ℕ). LassosGraded (morphism_of file) (marking_of file) (value_of (monitor_at b i).before) (monitor_at b i).since h)
        (sym (s.same_file c.there)) c.graded);
  }

-- where that is so of all names, the lowest grade is the same
pub same_lowest : {b : Board} {files : List ℕ} {b' : Board} {files' : List ℕ} {grade : ℕ} → ((i : ℕ) → i < board_names_count → SameName b files b' files' i)
    → LowestGrade b files grade → LowestGrade b' files' grade
same_lowest {b} {files} {b'} {files'} {grade} same l = record {
  lowest = λ i h c. l.lowest i h (back c);
  attained = ⊎_elim (λ e. inl e) (λ (s : SomeCounting b files grade). inr (record { name = s.name; counts = same_counting (same s.name s.counts.named) s.counts })) l.attained;
  none = λ e i h c. l.none e i h (back c);
}
  where
    back : {i h : ℕ} → Counting b' files' i h → Counting b files i h
    back {i} c = same_counting (same_back (same i c.named)) c

-- the board that a call hands back
pub board_agrees : {next board : Board} {files : List ℕ} {log : List Deed} → NamesAgree next files log → BoardBecomes next files board → BoardAgrees board files log
board_agrees {next} {board} {files} {log} s p = subst (λ (c : Board). BoardAgrees c files log) (sym p.becomes) (record {
  names = record { whole = record { flags = s.whole.flags; befores = s.whole.befores; sinces = s.whole.sinces }; holds = λ i h. same_holds same (s.holds i h) };
  lowest = same_lowest (λ i h. same) p.grade;
})
  where
    same : {i : ℕ} → SameName next files (with_lowest next p.lowest) files i
    same = record { flags = refl; monitors = refl; same_file = λ there. refl }
