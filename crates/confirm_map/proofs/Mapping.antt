-- The questions about a map: each element goes to one of the second table, each of those is gone to, and products and letters are carried
-- over. Assumes nothing.
use Prim.Native.Nat.{ℕ, ◌≤◌, ◌<◌}
use mathlib.Core.Path.{◌≡◌, sym, ap, ap₂, ◌∙◌}
use mathlib.Core.Bool.{Bool, true, false, not}
use mathlib.Core.List.{List}
use native.Mathlib.Omega.{arith}
use lib.ListN.{length, get_or}
use borrow.Author.Tests.{not-true, not-false}
use Rattle.finite.specs.Tells.{Tells}
use Rattle.finite.specs.Each.{EachBelow}
use Rattle.finite.proofs.Tells.{told_yes, told_no, tells_same}
use Rattle.theory.specs.Rules.{Morphism}
use Rattle.theory.specs.Maps.{MapsOnto}
use Rattle.formats.proofs.Tables.{Table}
use Rattle.confirm_map.specs.Mapping.{TakenTo, ProductCarried, ImageCarried, MapNeeds}

-- a search for an element that goes to t
module _ {to : ℕ → ℕ} where
  pub taken_here : {n s t r : ℕ} → s < n → r ≡ to s → r ≡ t → Tells (TakenTo to n t) true
  taken_here {s = s} h e q = told_yes (record { from = s; below = h; goes = sym e ∙ q })

  pub taken_nowhere : {n s t : ℕ} → EachBelow (λ i. to i ≡ t → ⊥) s → n ≤ s → Tells (TakenTo to n t) false
  taken_nowhere w h = told_no (λ k. w.each k.from (omega (arith, k.below)) k.goes)

module _ {a b : Morphism} {to : ℕ → ℕ} where
  -- one product, by the numbers that the code has
  module _ {s t from-s from-t here there gone : ℕ} (es : from-s ≡ to s) (et : from-t ≡ to t) (eb : there ≡ b.product from-s from-t) (ea : here ≡ a.product s t)
      (eg : gone ≡ to here) where
    pub product_carried : gone ≡ there → ProductCarried a b to s t
    product_carried e = record { carried = sym (eg ∙ ap to ea) ∙ e ∙ eb ∙ ap₂ b.product es et }

    pub product_differs : (gone ≡ there → ⊥) → ProductCarried a b to s t → ⊥
    product_differs g p = g (eg ∙ ap to ea ∙ p.carried ∙ sym (eb ∙ ap₂ b.product es et))

  -- one letter
  module _ {x here there gone : ℕ} (eb : there ≡ b.image x) (ea : here ≡ a.image x) (eg : gone ≡ to here) where
    pub image_carried : gone ≡ there → ImageCarried a b to x
    image_carried e = record { carried = sym (eg ∙ ap to ea) ∙ e ∙ eb }

    pub image_differs : (gone ≡ there → ⊥) → ImageCarried a b to x → ⊥
    image_differs g p = g (eg ∙ ap to ea ∙ p.carried ∙ sym eb)

  -- a question that is answered by no
  module _ {answer : Bool} (e : not answer ≡ true) where
    pub not_inside : Tells (EachBelow (λ s. to s < b.size) a.size) answer → Tells (MapsOnto a b to) false
    not_inside t = told_no (λ m. t.fails (not-true _ e) (record { each = m.inside }))

    pub not_onto : Tells (EachBelow (TakenTo to a.size) b.size) answer → Tells (MapsOnto a b to) false
    not_onto t =
        told_no (λ m. t.fails (not-true _ e) (record { each = λ i h. record { from = (m.onto i h).0; below = (m.onto i h).1; goes = (m.onto i h).2 } }))

    pub not_products : Tells (EachBelow (λ s. EachBelow (ProductCarried a b to s) a.size) a.size) answer → Tells (MapsOnto a b to) false
    not_products t =
        told_no (λ m. t.fails (not-true _ e) (record { each = λ s hs. record { each = λ u hu. record { carried = m.carries.products s u hs hu } } }))

  -- the last question, where the others are answered by yes
  pub maps_told : {within each-taken each-product answer : Bool} → Tells (EachBelow (λ s. to s < b.size) a.size) within → not within ≡ false
      → Tells (EachBelow (TakenTo to a.size) b.size) each-taken → not each-taken ≡ false
      → Tells (EachBelow (λ s. EachBelow (ProductCarried a b to s) a.size) a.size) each-product → not each-product ≡ false
      → Tells (EachBelow (ImageCarried a b to) a.letters) answer → Tells (MapsOnto a b to) answer
  maps_told i ei o eo p ep t =
      tells_same (
        λ w. record {
          inside = (i.holds (not-false _ ei)).each;
          onto = λ u h. (let x = (o.holds (not-false _ eo)).each u h in (x.from, x.below, x.goes));
          carries = record {
            products = λ s u hs hu. (((p.holds (not-false _ ep)).each s hs).each u hu).carried;
            images = λ x h. (w.each x h).carried;
          };
        },
        λ m. record { each = λ x h. record { carried = m.carries.images x h } },
      )
      t

-- bytes that are elements of the second table
pub map_needs : {first : List ℕ} {n₁ : ℕ} {second : List ℕ} {n₂ k : ℕ} {map : List ℕ} {answer : Bool} → Table first n₁ k → Table second n₂ k → length map ≡ n₁
    → Tells (EachBelow (λ s. get_or map s 0 < n₂) n₁) answer → not answer ≡ false → MapNeeds first n₁ second n₂ k map
map_needs one two l t e = record { first_is_table = one; second_is_table = two; bytes = l; inside = (t.holds (not-false _ e)).each }

-- what was read there is an element
pub mapped_below : {first : List ℕ} {n₁ : ℕ} {second : List ℕ} {n₂ k : ℕ} {map : List ℕ} {s r : ℕ} → MapNeeds first n₁ second n₂ k map → s < n₁ → r ≡ get_or map s 0 → r < n₂
mapped_below {s = s} needs h e = rw e (needs.inside s h)
