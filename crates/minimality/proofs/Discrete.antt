-- A strong rule is the smallest with its grades exactly if a stable round leaves each element alone. Assumes nothing.
use Prim.Native.Nat.{ℕ, ◌≤◌, ◌<◌}
use mathlib.Core.Path.{◌≡◌, subst}
use lib.Dec.{T}
use lib.ListN.{length}
use Rattle.finite.proofs.Search.{count_all}
use Rattle.theory.specs.Rules.{Morphism, Rule}
use Rattle.theory.specs.Rounds.{Together, Stable}
use Rattle.theory.specs.Smallest.{Smallest}
use Rattle.minimality.proofs.FirstStable.{leads, block_count}
use Rattle.minimality.proofs.Congruence.{indistinct_together}
use Rattle.minimality.proofs.Smallest.{Syntactic}
use Rattle.minimality.proofs.Quotient.{quotient}
use Rattle.minimality.proofs.Numbering.{least_leaders, leaders_count, leaders_equal, numbering_of_stable}
use Rattle.minimality.proofs.GradeOutcomes.{grading}
use Rattle.minimality.proofs.Reductions.{RuleNumbering, reduced_rule, reduced_same, reduced_strong, syntactic_smallest}
use Rattle.minimality.proofs.Combined.{StrongGrades, strong_outcomes}

-- each element is alone after round i
pub record Discrete (m : Morphism) (acc : ℕ → ℕ → ℕ) (i : ℕ) : Type 0 where
  pub alone : (s t : ℕ) → s < m.size → t < m.size → Together m acc i s t → s ≡ t

module _ (r : Rule) (k : StrongGrades r.morphism r.marks) where
  abbrev m : Morphism
  m = r.morphism

  abbrev acc : ℕ → ℕ → ℕ
  acc = grading r.morphism r.marks

  -- elements that no context tells apart stand together after every round, stable or not
  pub discrete_smallest : {i : ℕ} → Discrete m acc i → Smallest r
  discrete_smallest {i} d =
      let apart : Syntactic m acc = record { told_apart = λ s t hs ht same. d.alone s t hs ht (indistinct_together r.lawful acc i s t hs ht same) } in
      syntactic_smallest r k.reached k.strong (strong_outcomes k) apart

  module _ {i : ℕ} (stable : Stable m acc i) (small : Smallest r) where
    abbrev numbering : RuleNumbering r (length (least_leaders m acc i))
    numbering = numbering_of_stable r.lawful k.reached stable

    -- the rule whose elements are the blocks is a rival, so there are as many blocks as elements
    many : m.size ≤ length (least_leaders m acc i)
    unfolding reduced_rule quotient
    many =
        small.at_least (reduced_rule r numbering) (reduced_strong r k.reached k.grades k.strong numbering)
        (reduced_same r k.reached k.grades k.strong numbering)

    -- so each element is the least of its block
    each_leads : (s : ℕ) → s < m.size → T (leads m acc i s)
    unfolding block_count
    each_leads = count_all m.size (leads m acc i) (subst (λ (c : ℕ). m.size ≤ c) (leaders_count m acc i) many)

    pub smallest_discrete : Discrete m acc i
    smallest_discrete = record { alone = λ s t hs ht. leaders_equal m acc i s t (each_leads s hs) (each_leads t ht) }
