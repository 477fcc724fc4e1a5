-- Bytes that read back as a rule mean a rule that gives each lasso the same grade, is strong if that one is, and marks as it does. Assumes nothing.
use Prim.Native.Nat.{ℕ, ◌<◌}
use mathlib.Core.Path.{sym, subst, ◌∙◌}
use mathlib.Core.Logic.{◌↔◌}
use mathlib.Core.List.{List}
use lib.Dec.{T, leb}
use Rattle.theory.specs.Words.{Over, Lasso}
use Rattle.theory.specs.Rules.{Morphism, Marking, Lawful, Pairs, level, element}
use Rattle.theory.specs.Acceptance.{Accepts}
use Rattle.theory.specs.Grades.{AtLeast, StrongMarking, LassosGraded, LinkedGraded}
use Rattle.theory.specs.Smallest.{MarksGrades}
use Rattle.theory.proofs.Gradings.{graded_same}
use Rattle.theory.proofs.Values.{inside_of}
use Rattle.formats.specs.RuleFile.{morphism_of, marking_of}
use Rattle.formats.specs.ReadBack.{ReadsBack}
use Rattle.formats.proofs.Agree.{Agree, below_first, agree_value, agree_word, agree_linked, agree_lawful, agree_back}
use Rattle.formats.proofs.ReadBack.{reads_agree}

-- where two tables agree, and the pairs marked in one are marked in the other, so do the lassos
accepts_agree : {m m' : Morphism} {P P' : Pairs} {u v : List ℕ} → Agree m m' → Lawful m
    → ((s e : ℕ) → s < m.size → e < m.size → T (P s e) → T (P' s e)) → Accepts m P u v → Accepts m' P' u v
accepts_agree {m} {m'} g law marks k = record {
  cycle_some = k.cycle_some;
  start = k.start;
  cycle = k.cycle;
  start_over = subst (λ n. Over n k.start) (sym g.same_letters) k.start_over;
  cycle_over = subst (λ n. Over n k.cycle) (sym g.same_letters) k.cycle_over;
  same = k.same;
  element_of_start = k.element_of_start;
  cycle_element = k.cycle_element;
  start_value = agree_value g law k.start_over ∙ k.start_value;
  cycle_value = agree_value g law k.cycle_over ∙ k.cycle_value;
  has_mark = marks k.element_of_start k.cycle_element (inside_of law k.start_over k.start_value) (inside_of law k.cycle_over k.cycle_value) k.has_mark;
}

module _ {m : Morphism} {marks : Marking} {bytes : List ℕ} (law : Lawful m) (r : ReadsBack m marks bytes) where
  abbrev agree : Agree m (morphism_of bytes)
  agree = reads_agree r

  same_pairs : (g s e : ℕ) → s < m.size → e < m.size → T (level g marks s e) ↔ T (level g (marking_of bytes) s e)
  unfolding level
  same_pairs g s e hs he = (subst (λ n. T (leb g n)) (sym (r.marking s e hs he)), subst (λ n. T (leb g n)) (r.marking s e hs he))

  pub reads_at_least : (g : ℕ) (u v : List ℕ) → AtLeast m marks g u v ↔ AtLeast (morphism_of bytes) (marking_of bytes) g u v
  reads_at_least g u v = (
    accepts_agree agree law (λ s e hs he. (same_pairs g s e hs he).0),
    accepts_agree (agree_back agree) (agree_lawful agree law) (λ s e hs he. (same_pairs g s e (below_first agree hs) (below_first agree he)).1),
  )

  pub reads_strong : StrongMarking m marks → StrongMarking (morphism_of bytes) (marking_of bytes)
  reads_strong strong = record {
    at_each = λ g some. record {
      both_or_neither = λ u v u' v' l l' eu ev.
          let h = subst (λ n. Lasso n u v) agree.same_letters l in
          let h' = subst (λ n. Lasso n u' v') agree.same_letters l' in
          let k = (strong.at_each g some).both_or_neither u v u' v' h h'
          (sym (agree_value agree law h.start_over) ∙ eu ∙ agree_value agree law h'.start_over)
          (sym (agree_value agree law h.cycle_over) ∙ ev ∙ agree_value agree law h'.cycle_over) in
          (λ a. (reads_at_least g u' v').0 (k.0 ((reads_at_least g u v).1 a)), λ a. (reads_at_least g u v).0 (k.1 ((reads_at_least g u' v').1 a)));
    };
  }

  -- a lasso of the bytes' rule is one of the rule
  lasso_back : {u v : List ℕ} → Lasso (morphism_of bytes).letters u v → Lasso m.letters u v
  lasso_back {u} {v} l = subst (λ n. Lasso n u v) agree.same_letters l

  -- the lassos with two values have the grade that they had
  reads_lassos : {s e g : ℕ} → LassosGraded m marks (element s) e g → LassosGraded (morphism_of bytes) (marking_of bytes) (element s) e g
  reads_lassos k = record {
    start = record {
      word = k.start.word;
      over = subst (λ n. Over n k.start.word) (sym agree.same_letters) k.start.over;
      its_value = agree_value agree law k.start.over ∙ k.start.its_value;
    };
    cycle = agree_word agree law k.cycle;
    graded = λ u v l eu ev.
        let h = lasso_back l in
        graded_same (λ g some. reads_at_least g u v)
        (k.graded u v h (sym (agree_value agree law h.start_over) ∙ eu) (sym (agree_value agree law h.cycle_over) ∙ ev));
  }

  -- and the pairs are marked as they were
  pub reads_marks : MarksGrades m marks → MarksGrades (morphism_of bytes) (marking_of bytes)
  reads_marks k = record {
    of_linked = λ s e l.
        let own = agree_linked (agree_back agree) l in
        subst (LinkedGraded (morphism_of bytes) (marking_of bytes) s e) (sym (r.marking s e own.inside own.idempotent.inside))
        (record { linked = l; lassos = reads_lassos (k.of_linked s e own).lassos });
    of_others = λ s e hs he not_linked.
        r.marking s e (below_first agree hs) (below_first agree he)
        ∙ k.of_others s e (below_first agree hs) (below_first agree he) (λ l. not_linked (agree_linked agree l));
  }
