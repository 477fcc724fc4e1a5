-- A table whose elements are the places of a complete list of pairs, with products and letters by the numbers of their pairs: it is the
-- table of the pairs of values, it is lawful, and it is numbered by first words. Assumes nothing.
use Prim.Native.Nat.{ℕ, ◌+◌, ◌<◌}
use mathlib.Core.Path.{◌≡◌, sym, ap, subst, ◌∙◌}
use mathlib.Core.List.{List}
use native.Mathlib.Omega.{arith}
use Rattle.theory.specs.Words.{Over}
use Rattle.theory.specs.Rules.{Morphism, Lawful}
use Rattle.theory.specs.Maps.{Carries}
use Rattle.theory.specs.Combined.{PairsOf}
use Rattle.theory.proofs.Combined.{left_value, right_value, pair_value}
use Rattle.formats.specs.Table.{morphism_at}
use Rattle.formats.specs.FirstWords.{ByFirstWords}
use Rattle.pair_list.specs.Pairs.{left_at, right_at, number_at, Numbered, TwoTables, PairList}
use Rattle.pair_list.specs.Tables.{PairTable}
use Rattle.pair_list.proofs.Listed.{word_at, found_pair, listed_word, letter_listed, product_listed, listed_apart, words_rise}

-- the place of a pair with a number: its halves stand there
module _ {scratch : List ℕ} {count s t : ℕ} (i : ℕ) (n : Numbered scratch count s t) (e : number_at scratch s t ≡ i + 1) where
  same_place : n.at ≡ i
  same_place = omega (arith, n.number)

  place_below : i < count
  place_below = omega (arith, n.below, same_place)

  place_left : left_at scratch i ≡ s
  place_left = ap (left_at scratch) (sym same_place) ∙ n.left

  place_right : right_at scratch i ≡ t
  place_right = ap (right_at scratch) (sym same_place) ∙ n.right

module _ {first : List ℕ} {n₁ : ℕ} {second : List ℕ} {n₂ k : ℕ} (tables : TwoTables first n₁ second n₂ k) {scratch : List ℕ} {count : ℕ}
    (list : PairList first n₁ second n₂ k scratch count) {m : Morphism} (table : PairTable first n₁ second n₂ k scratch count m) where
  inside : {i : ℕ} → i < m.size → i < count
  inside h = omega (arith, table.same_size)

  letter : {x : ℕ} → x < m.letters → x < k
  letter h = omega (arith, table.same_letters)

  -- products and letters pair by pair
  pub table_first : Carries m (morphism_at first n₁ k) (left_at scratch)
  table_first = record {
    products = λ i j hi hj. place_left (m.product i j) (product_listed tables list i j (inside hi) (inside hj)) (table.products i j (inside hi) (inside hj));
    images = λ x h. place_left (m.image x) (letter_listed tables list x (letter h)) (table.images x (letter h));
  }

  pub table_second : Carries m (morphism_at second n₂ k) (right_at scratch)
  table_second = record {
    products = λ i j hi hj. place_right (m.product i j) (product_listed tables list i j (inside hi) (inside hj)) (table.products i j (inside hi) (inside hj));
    images = λ x h. place_right (m.image x) (letter_listed tables list x (letter h)) (table.images x (letter h));
  }

  apart : (i j : ℕ) → i < m.size → j < m.size → left_at scratch i ≡ left_at scratch j → right_at scratch i ≡ right_at scratch j → i ≡ j
  apart i j hi hj = listed_apart tables list i j (inside hi) (inside hj)

  -- it is the table of the pairs of values
  pub table_pairs : PairsOf (morphism_at first n₁ k) (morphism_at second n₂ k) m (left_at scratch) (right_at scratch)
  table_pairs = record {
    first_letters = table.same_letters;
    second_letters = table.same_letters;
    first = table_first;
    second = table_second;
    apart = apart;
    some_word = λ i h. listed_word tables list i (inside h);
  }

  closed : (i j : ℕ) → i < m.size → j < m.size → m.product i j < m.size
  closed i j hi hj =
      let h : m.product i j < count = place_below (m.product i j) (product_listed tables list i j (inside hi) (inside hj)) (table.products i j (inside hi) (inside hj)) in
      omega (arith, table.same_size)

  -- one half of two products in a row
  half_associative : {h : Morphism} {half : ℕ → ℕ} → Lawful h → Carries m h half → ((i : ℕ) → i < count → half i < h.size)
      → (a b c : ℕ) → a < m.size → b < m.size → c < m.size → half (m.product (m.product a b) c) ≡ half (m.product a (m.product b c))
  half_associative {h} {half} law carries below a b c ha hb hc =
      carries.products (m.product a b) c (closed a b ha hb) hc
      ∙ ap (λ (x : ℕ). h.product x (half c)) (carries.products a b ha hb)
      ∙ law.associative (half a) (half b) (half c) (below a (inside ha)) (below b (inside hb)) (below c (inside hc))
      ∙ ap (h.product (half a)) (sym (carries.products b c hb hc))
      ∙ sym (carries.products a (m.product b c) ha (closed b c hb hc))

  -- it is lawful
  pub table_lawful : Lawful m
  table_lawful = record {
    closed = closed;
    associative = λ a b c ha hb hc.
        apart (m.product (m.product a b) c) (m.product a (m.product b c)) (closed (m.product a b) c (closed a b ha hb) hc) (closed a (m.product b c) ha (closed b c hb hc))
        (half_associative tables.first_law table_first list.left_inside a b c ha hb hc)
        (half_associative tables.second_law table_second list.right_inside a b c ha hb hc);
    images = λ x h.
        let l : m.image x < count = place_below (m.image x) (letter_listed tables list x (letter h)) (table.images x (letter h)) in
        omega (arith, table.same_size);
  }

  over : {w : List ℕ} → Over k w → Over m.letters w
  over {w} o = subst (λ (c : ℕ). Over c w) (sym table.same_letters) o

  -- it is numbered by first words
  pub table_by_first_words : ByFirstWords m
  table_by_first_words = record {
    word = word_at scratch;
    first = λ i h.
        let w = found_pair tables list i (inside h) in
        record {
          over = over w.over;
          its_value = pair_value table_pairs table_lawful h (over w.over) w.first_value w.second_value;
          least = λ v o e.
              w.least v (subst (λ (c : ℕ). Over c v) table.same_letters o) (left_value table_pairs table_lawful o e) (right_value table_pairs table_lawful o e);
        };
    increasing = λ i j h l. words_rise tables list i j h (inside l);
  }
