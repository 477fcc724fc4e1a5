-- The sections of a written rule pass the checks 1 to 3, and the file has its right end: every entry names an element or is a
-- grade, every byte is below 256, and the whole is no longer than the longest file. Assumes nothing.
use Prim.Native.Nat.{ℕ, ◌+◌, ◌*◌, ◌/◌, ◌%◌, ◌≤◌, ◌<◌}
use mathlib.Core.Path.{◌≡◌, refl, sym, subst}
use mathlib.Core.List.{List, [], ◌∷◌, ◌++◌, append-nil}
use native.Mathlib.Omega.{arith}
use native.Mathlib.Nat.{mod-lt, div-lt_iff_lt-mul, mul-le-mul, mod-add-div}
use lib.Dec.{ltb→lt}
use lib.ListN.{length, get_or, length-append, get_or-append}
use lib.Seq.{get_or-append-add}
use Rattle.answer.specs.Checks.{passed, FirstFailure}
use Rattle.theory.specs.Words.{Over, over_nil, over_cons}
use Rattle.theory.specs.Rules.{Morphism, Marking, Lawful}
use Rattle.theory.proofs.Words.{over_append, over_at, over_from}
use Rattle.formats.specs.Sections.{Section, InRange, count_bytes, count_at, two_bytes, section_checks}
use Rattle.formats.proofs.Sections.{section_passes}
use Rattle.formats.specs.RuleFile.{mark_floor, mark_bound, elements_section, letters_section, marks_section}
use Rattle.formats.specs.RuleChecks.{rule_size}
use Rattle.formats.specs.WrittenFile.{tabulate, elements_bytes, letters_bytes, mark_numbers, mark_bytes, marks_bytes, file_of, FitsFormat, FitsGrades}
use Rattle.formats.proofs.Tabulated.{tabulate_length, tabulate_at}
use Rattle.formats.proofs.Triples.{by_triples}
use Rattle.formats.proofs.MarkBytes.{marks_length, marked_start, marked_cycle, mark_grade_lem}
use Rattle.formats.proofs.MarkEntries.{floor_start, floor_cycle, floor_grade, bound_start, bound_cycle, bound_grade, bound_small}
use Rattle.formats.proofs.Marks.{numbers_listed, MarkedAt, number_marked}
use Rattle.formats.proofs.Stands.{file_length}

-- more letters
over_more : {k k' : ℕ} {w : List ℕ} → k ≤ k' → Over k w → Over k' w
over_more l over_nil = over_nil
over_more l (over_cons {a} h o) = over_cons {a = a} (omega arith) (over_more l o)

-- a row of values that are all below k
tabulate_over : (k n : ℕ) (f : ℕ → ℕ) → ((i : ℕ) → i < n → f i < k) → Over k (tabulate 0 n f)
tabulate_over k n f h =
    over_from k (tabulate 0 n f) (λ i l. let l' : i < n = omega (arith, tabulate_length 0 n f) in rw (tabulate_at n f i l') (h i l'))

-- entries that are all below k
over_in_range : {k : ℕ} {w : List ℕ} → Over k w → (i : ℕ) → i < length w → InRange 0 k (get_or w i 0)
over_in_range {k} {w} o i l = record { above = omega arith; below = over_at k w o i l }

-- the entries of a section stand after its count and before what follows
body_at : (front body tail : List ℕ) (i : ℕ) → i < length body → get_or (front ++ (body ++ tail)) (length front + i) 0 ≡ get_or body i 0
body_at front body tail i l = rw get_or-append-add (get_or-append body tail 0 i l)

-- a section with good entries after a good count passes
passes_with : (s : Section) (input at count : ℕ) (front body tail : List ℕ)
    → length front ≡ count_bytes s.width
    → count ≡ count_at s.width (front ++ (body ++ tail))
    → s.low ≤ count
    → count ≤ s.high
    → length body ≡ s.entries count
    → ((i : ℕ) → i < length body → InRange (s.floor count i) (s.bound count i) (get_or body i 0))
    → FirstFailure (section_checks s input at (front ++ (body ++ tail))) passed
passes_with s input at count front body tail lf ec low high lb each =
    section_passes s input at (front ++ (body ++ tail))
    (record { present = simp length-append (omega arith); is_count = ec; above = low; within = high })
    (record {
      present = simp length-append (omega arith);
      entries = record { each = λ i l. let l' : i < length body = omega arith in rw (← lf, body_at front body tail i l') (each i l') };
    })

-- every product and every letter's image is an element
pub record NamesElements (m : Morphism) : Type 0 where
  pub products : (a b : ℕ) → a < m.size → b < m.size → m.product a b < m.size
  pub images : (a : ℕ) → a < m.letters → m.image a < m.size

-- in a lawful table they are
pub lawful_names : {m : Morphism} → Lawful m → NamesElements m
lawful_names law = record { products = law.closed; images = law.images }

module _ (m : Morphism) (marks : Marking) (fits : FitsFormat m) where
  -- the number of marks is within its range
  pub marks_few : length (mark_numbers m marks) ≤ 4096
  marks_few = omega (arith, (numbers_listed m marks).short, mul-le-mul fits.small fits.small)

  -- no file is longer than the longest
  pub file_short : length (file_of m marks) ≤ rule_size
  file_short = omega (arith, file_length m marks, marks_few, fits.letters_small, mul-le-mul fits.small fits.small)

  module _ (names : NamesElements m) where
    table_over : Over m.size (tabulate 0 (m.size * m.size) (λ i. m.product (i / m.size) (i % m.size)))
    table_over =
        tabulate_over m.size (m.size * m.size) _
        (λ i l. names.products _ _ ((div-lt_iff_lt-mul fits.some).1 l) (mod-lt i fits.some))

    images_over : Over m.size (tabulate 0 m.letters m.image)
    images_over = tabulate_over m.size m.letters m.image names.images

    -- the elements' section
    pub elements_pass : (input at : ℕ) → FirstFailure (section_checks elements_section input at (file_of m marks)) passed
    unfolding file_of elements_bytes
    elements_pass input at =
        let entry : ℕ → ℕ = λ i. m.product (i / m.size) (i % m.size) in
        passes_with elements_section input at m.size (m.size ∷ []) (tabulate 0 (m.size * m.size) entry) (letters_bytes m ++ marks_bytes m marks)
        refl refl fits.some fits.small (tabulate_length 0 (m.size * m.size) entry) (over_in_range table_over)

    -- the letters' section
    pub letters_pass : (input at : ℕ) → FirstFailure (section_checks (letters_section m.size) input at (letters_bytes m ++ marks_bytes m marks)) passed
    unfolding letters_bytes
    letters_pass input at =
        passes_with (letters_section m.size) input at m.letters (m.letters ∷ []) (tabulate 0 m.letters m.image) (marks_bytes m marks)
        refl refl fits.letters_some fits.letters_small (tabulate_length 0 m.letters m.image) (over_in_range images_over)

  -- the marks
  module _ (graded : FitsGrades m marks) where
    -- the pair and the grade of the j-th are in their ranges
    mark_good : (j : ℕ) → j < length (mark_numbers m marks) → MarkedAt m marks (get_or (mark_numbers m marks) j 0)
    mark_good j h = number_marked m marks fits.some j h

    grade_good : (j : ℕ) → j < length (mark_numbers m marks)
        → InRange 1 4 (marks (get_or (mark_numbers m marks) j 0 / m.size) (get_or (mark_numbers m marks) j 0 % m.size))
    grade_good j h =
        let p = mark_good j h in
        record { above = ltb→lt 0 _ p.has_mark; below = omega (arith, graded.grades _ _ p.start_inside p.cycle_inside) }

    bytes_good : (i : ℕ) → i < length (mark_bytes m marks (mark_numbers m marks))
        → InRange (mark_floor i) (mark_bound m.size i) (get_or (mark_bytes m marks (mark_numbers m marks)) i 0)
    bytes_good i l =
        by_triples (λ (x : ℕ). InRange (mark_floor x) (mark_bound m.size x) (get_or (mark_bytes m marks (mark_numbers m marks)) x 0)) (length (mark_numbers m marks))
        (λ j h. rw (floor_start j, bound_start j m.size, marked_start m marks (mark_numbers m marks) j h) (record { above = omega arith; below = (mark_good j h).start_inside }))
        (λ j h. rw (floor_cycle j, bound_cycle j m.size, marked_cycle m marks (mark_numbers m marks) j h) (record { above = omega arith; below = (mark_good j h).cycle_inside }))
        (λ j h. rw (floor_grade j, bound_grade j m.size, mark_grade_lem m marks (mark_numbers m marks) j h) (grade_good j h))
        i (omega (arith, marks_length m marks (mark_numbers m marks)))

    -- their section
    pub marks_pass : (input at : ℕ) → FirstFailure (section_checks (marks_section m.size) input at (marks_bytes m marks)) passed
    unfolding marks_bytes two_bytes
    marks_pass input at =
        let c : ℕ = length (mark_numbers m marks) in
        subst (λ (l : List ℕ). FirstFailure (section_checks (marks_section m.size) input at (c % 256 ∷ c / 256 ∷ l)) passed)
        (append-nil (mark_bytes m marks (mark_numbers m marks)))
        (passes_with (marks_section m.size) input at c (c % 256 ∷ c / 256 ∷ []) (mark_bytes m marks (mark_numbers m marks)) [] refl
        (sym (mod-add-div c 256)) (omega arith) marks_few (marks_length m marks (mark_numbers m marks)) bytes_good)

    marks_over : Over 256 (mark_bytes m marks (mark_numbers m marks))
    marks_over = over_from 256 (mark_bytes m marks (mark_numbers m marks)) (λ i l. omega (arith, (bytes_good i l).below, bound_small m.size i fits.small))

    -- every byte is below 256
    pub file_over : NamesElements m → Over 256 (file_of m marks)
    unfolding file_of elements_bytes letters_bytes marks_bytes
    file_over names =
        let small : m.size ≤ 256 = omega (arith, fits.small) in
        let c : ℕ = length (mark_numbers m marks) in
        over_cons {a = m.size} (omega (arith, fits.small))
        (over_append (over_more small (table_over names))
        (over_cons {a = m.letters} (omega (arith, fits.letters_small))
        (over_append (over_more small (images_over names))
        (over_cons (mod-lt c (omega arith)) (over_cons {a = c / 256} (omega (arith, marks_few)) marks_over)))))
