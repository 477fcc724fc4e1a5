-- The marks of a written rule: as many as there are marked pairs, each a pair of elements that is marked, with its grade, no pair
-- twice, and every marked pair among them. Assumes nothing.
use Prim.Native.Nat.{ℕ, ◌+◌, ◌*◌, ◌/◌, ◌%◌, ◌≤◌, ◌<◌}
use mathlib.Core.Path.{◌≡◌, sym, ap, ap₂, subst, ◌∙◌}
use mathlib.Core.Bool.{Bool}
use mathlib.Core.Logic.{⊎_elim}
use mathlib.Core.List.{List}
use native.Mathlib.Omega.{arith}
use native.Mathlib.Nat.{mod-lt, div-lt_iff_lt-mul, div-add-mod'}
use lib.Dec.{T, ltb, lt→ltb}
use lib.ListN.{length, get_or}
use lib.Arith.{digits_lt, digits_div, digits_mod}
use Rattle.finite.specs.Select.{select}
use Rattle.theory.specs.Rules.{Morphism, Marking}
use Rattle.formats.specs.RuleFile.{marks_at, marks_of, mark_grade, is_mark, grade_among, marks_in, marking_of}
use Rattle.formats.specs.WrittenFile.{is_marked, mark_numbers, file_of}
use Rattle.formats.proofs.Listed.{Place, Listed, select_listed}
use Rattle.formats.proofs.Stands.{marks_are, start_stands, cycle_stands, grade_stands}
use Rattle.formats.proofs.Grades.{is_mark_elim, is_mark_intro, MarkOf, NoMark, mark_of}

module _ (m : Morphism) (marks : Marking) where
  -- the numbers of the marked pairs, each once
  pub numbers_listed : Listed (is_marked m marks) 0 (m.size * m.size) (mark_numbers m marks)
  unfolding mark_numbers select
  numbers_listed = select_listed (is_marked m marks) 0 (m.size * m.size)

  -- a marked pair of elements, by its number
  pub record MarkedAt (x : ℕ) : Type 0 where
    pub start_inside : x / m.size < m.size
    pub cycle_inside : x % m.size < m.size
    pub has_mark : T (ltb 0 (marks (x / m.size) (x % m.size)))

  -- each number in the list is that of a marked pair
  pub number_marked : 1 ≤ m.size → (j : ℕ) → j < length (mark_numbers m marks) → MarkedAt (get_or (mark_numbers m marks) j 0)
  unfolding is_marked
  number_marked some j h =
      let a = numbers_listed.each j h in
      record {
        start_inside = (div-lt_iff_lt-mul some).1 (omega (arith, a.high));
        cycle_inside = mod-lt (get_or (mark_numbers m marks) j 0) some;
        has_mark = a.passes;
      }

  -- where the number of a marked pair stands
  pub marked_number : (s e : ℕ) → s < m.size → e < m.size → T (ltb 0 (marks s e)) → Place (mark_numbers m marks) (s * m.size + e)
  unfolding is_marked
  marked_number s e hs he t = numbers_listed.found (s * m.size + e) (record {
    low = omega arith;
    high = omega (arith, digits_lt hs he);
    passes = subst (λ (b : Bool). T b) (sym (ap₂ (λ (x y : ℕ). ltb 0 (marks x y)) (digits_div s he) (digits_mod s he))) t;
  })

  -- the file and where its marks' section stands
  abbrev file : List ℕ
  file = file_of m marks

  -- a mark of the file has its pair's number for its grade
  mark_marked : (s e j : ℕ) → j < marks_of file → T (is_mark file (marks_at file) s e j) → mark_grade file (marks_at file) j ≡ marks s e
  mark_marked s e j h t =
      let h' : j < length (mark_numbers m marks) = omega (arith, marks_are m marks) in
      let p = is_mark_elim file (marks_at file) s e j t in
      grade_stands m marks j h'
      ∙ ap₂ marks (sym (start_stands m marks j h') ∙ p.0) (sym (cycle_stands m marks j h') ∙ p.1)

  -- a marked pair is a mark of the file
  marked_mark : (s e : ℕ) → e < m.size → (p : Place (mark_numbers m marks) (s * m.size + e)) → T (is_mark file (marks_at file) s e p.at)
  marked_mark s e he p =
      is_mark_intro file (marks_at file) s e p.at
      (start_stands m marks p.at p.inside ∙ ap (λ (x : ℕ). x / m.size) p.is ∙ digits_div s he)
      (cycle_stands m marks p.at p.inside ∙ ap (λ (x : ℕ). x % m.size) p.is ∙ digits_mod s he)

  -- the marking that the file means is the marking written
  pub marking_stands : (s e : ℕ) → s < m.size → e < m.size → marking_of (file_of m marks) s e ≡ marks s e
  unfolding marks_in marks_of
  marking_stands s e hs he = ⊎_elim listed unlisted (mark_of file (marks_at file) s e (marks_of file))
    where
      listed : MarkOf file (marks_at file) s e (marks_of file) → grade_among file (marks_at file) (marks_of file) s e ≡ marks s e
      listed k = k.its_grade ∙ mark_marked s e k.index k.below k.is_of_marks

      unlisted : NoMark file (marks_at file) s e (marks_of file) → grade_among file (marks_at file) (marks_of file) s e ≡ marks s e
      unlisted k =
          let f : 0 < marks s e → ⊥ =
          λ h.
          let p = marked_number s e hs he (lt→ltb 0 (marks s e) h) in
          k.none p.at (omega (arith, p.inside, marks_are m marks)) (marked_mark s e he p)
          in
          omega (arith, k.without_grade)

  -- no pair stands twice
  pub marks_apart : (j j' : ℕ) → j < j' → j' < length (mark_numbers m marks)
      → get_or (mark_numbers m marks) j 0 / m.size ≡ get_or (mark_numbers m marks) j' 0 / m.size
      → get_or (mark_numbers m marks) j 0 % m.size ≡ get_or (mark_numbers m marks) j' 0 % m.size
      → ⊥
  marks_apart j j' h h' es ee =
      let e : get_or (mark_numbers m marks) j 0 ≡ get_or (mark_numbers m marks) j' 0 =
      sym (div-add-mod' _ m.size) ∙ ap₂ (λ (x y : ℕ). x * m.size + y) es ee ∙ div-add-mod' _ m.size
      in
      omega (arith, numbers_listed.rising j j' h h')
