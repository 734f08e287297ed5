-- The templates of a link's layouts.
use Rattle.std.proofs.Common.{◌≡◌, ℕ, suc, ◌+◌, ◌≤◌, ◌<◌, Bool, true, false, ◌||◌, cond, List, [], ◌∷◌, ◌++◌, length, refl, ap, sym, ◌∙◌, arith, Some, None}
use Rattle.std.specs.List.{position_or_len}
use Rattle.std.specs.BTreeMap.{insert_entry}
use Rattle.std.specs.declared.cmp.Ordering.{Ordering}
use Rattle.std.specs.declared.cmp.Ordering.TheVariants.{Equal, Greater}
use Rattle.std.specs.Ordering.{nat_cmp, is_eq, match_ordering}
use Rattle.std.specs.Cmp.{nat_cmp_is}
use Rattle.fx_layout.specs.Keys.{Layout, same_layout}
use Rattle.fx_layout.proofs.Projections.{same_layout_is}
use Rattle.fx_session.specs.Templates.{Template, at_number, with_entry}
use Rattle.fx_link.specs.Sending.{knows, template_id, layouts_with, template_of, templates_from}

above : (n k : ℕ) → k < n → nat_cmp n k ≡ Greater
above n k h = sym (nat_cmp_is n k Greater h)

level : (n k : ℕ) → n ≡ k → nat_cmp n k ≡ Equal
level n k h = sym (nat_cmp_is n k Equal h)

look_past : {A : Type 0} (n k : ℕ) (x : A) (table : List (ℕ × A)) → k < n → at_number ((k, x) ∷ table) n
    ≡ at_number table n
look_past n k x table h = ap (λ (o : Ordering). cond (is_eq o) (Some x) (at_number table n)) (above n k h)

look_here : {A : Type 0} (n k : ℕ) (x : A) (table : List (ℕ × A)) → n ≡ k → at_number ((k, x) ∷ table) n ≡ Some x
look_here n k x table h = ap (λ (o : Ordering). cond (is_eq o) (Some x) (at_number table n)) (level n k h)

pub at_past : (id n : ℕ) (layouts : List Layout) → id + length layouts ≤ n → at_number (templates_from id layouts) n
    ≡ None
at_past id n [] h = refl
at_past id n (l ∷ ls) h = look_past n id (template_of l) (templates_from (suc id) ls) (omega arith)
    ∙ at_past (suc id) n ls (omega arith)

insert_past : (id n : ℕ) (layouts : List Layout) (new : Template) → id + length layouts ≤ n
    → with_entry (templates_from id layouts) n new ≡ templates_from id layouts ++ (n, new) ∷ []
insert_past id n [] new h = refl
insert_past id n (l ∷ ls) new h =
    let rest : List (ℕ × Template) = templates_from (suc id) ls in
    ap (λ (o : Ordering). match_ordering o ((n, new) ∷ (id, template_of l) ∷ rest) ((id, new) ∷ rest)
    ((id, template_of l) ∷ insert_entry nat_cmp rest n new)) (above n id (omega arith))
    ∙ ap (λ (t : List (ℕ × Template)). (id, template_of l) ∷ t) (insert_past (suc id) n ls new (omega arith))

push : (id n : ℕ) (layouts : List Layout) (layout : Layout) → n ≡ id + length layouts
    → templates_from id (layouts ++ layout ∷ []) ≡ templates_from id layouts ++ (n, template_of layout) ∷ []
push id n [] layout h = ap (λ (k : ℕ). (k, template_of layout) ∷ []) (let e : id ≡ n = omega arith in e)
push id n (l ∷ ls) layout h = ap (λ (t : List (ℕ × Template)). (id, template_of l) ∷ t)
    (push (suc id) n ls layout (omega arith))

-- a new template comes last
pub with_new : (layouts : List Layout) (layout : Layout)
    → with_entry (templates_from 256 layouts) (256 + length layouts) (template_of layout)
    ≡ templates_from 256 (layouts ++ layout ∷ [])
with_new layouts layout =
    insert_past 256 (256 + length layouts) layouts (template_of layout) (omega arith)
    ∙ sym (push 256 (256 + length layouts) layouts layout refl)

-- ---- where a layout's template stands

place_first : (p : Layout → Bool) (l : Layout) (ls : List Layout) (t : Bool) → p l ≡ t → position_or_len p (l ∷ ls)
    ≡ cond t 0 (1 + position_or_len p ls)
place_first p l ls true e = rw e refl
place_first p l ls false e = rw e refl

at_known : (id n : ℕ) (layouts : List Layout) (layout : Layout) → knows layouts layout ≡ true → n ≡ id
    + position_or_len (same_layout layout) layouts → at_number (templates_from id layouts) n ≡ Some (template_of layout)
at_known id n [] layout k e = absurd cc
at_known id n (l ∷ ls) layout k e = by (λ m j f. at_known (suc id) m ls layout j f) (same_layout layout l) refl where
  by : ((m : ℕ) → knows ls layout ≡ true → m ≡ suc id + position_or_len (same_layout layout) ls
      → at_number (templates_from (suc id) ls) m ≡ Some (template_of layout)) → (t : Bool) → same_layout layout l ≡ t
      → at_number (templates_from id (l ∷ ls)) n ≡ Some (template_of layout)
  by ih true s =
      look_here n id (template_of l) (templates_from (suc id) ls)
      (omega (arith, e, place_first (same_layout layout) l ls true s))
      ∙ ap (λ (x : Layout). Some (template_of x)) (sym (same_layout_is layout l s))
  by ih false s =
      let place : n ≡ id + (1 + position_or_len (same_layout layout) ls) = e
      ∙ ap (λ (m : ℕ). id + m) (place_first (same_layout layout) l ls false s) in
      look_past n id (template_of l) (templates_from (suc id) ls) (omega arith)
      ∙ ih n (sym (ap (λ (t : Bool). t || knows ls layout) s) ∙ k) (omega (arith, place))

pub place_new : (layouts : List Layout) (layout : Layout) → knows layouts layout ≡ false
    → position_or_len (same_layout layout) layouts ≡ length layouts
place_new [] layout k = refl
place_new (l ∷ ls) layout k = by (λ j. place_new ls layout j) (same_layout layout l) refl where
  by : (knows ls layout ≡ false → position_or_len (same_layout layout) ls ≡ length ls) → (t : Bool)
      → same_layout layout l ≡ t → position_or_len (same_layout layout) (l ∷ ls) ≡ suc (length ls)
  by ih true s = absurd (let h : true ≡ false = sym (ap (λ (t : Bool). t || knows ls layout) s) ∙ k in cc)
  by ih false s =
      let rest : position_or_len (same_layout layout) ls ≡ length ls =
      ih (sym (ap (λ (t : Bool). t || knows ls layout) s) ∙ k) in
      place_first (same_layout layout) l ls false s ∙ omega arith

at_end : (id n : ℕ) (layouts : List Layout) (layout : Layout) → n ≡ id + length layouts
    → at_number (templates_from id (layouts ++ layout ∷ [])) n ≡ Some (template_of layout)
at_end id n [] layout e = look_here n id (template_of layout) [] (omega arith)
at_end id n (l ∷ ls) layout e = look_past n id (template_of l) (templates_from (suc id) (ls ++ layout ∷ []))
    (omega arith) ∙ at_end (suc id) n ls layout (omega arith)

-- once its layout is used, the template of an id is there
pub at_template : (layouts : List Layout) (layout : Layout)
    → at_number (templates_from 256 (layouts_with layouts layout)) (template_id layouts layout)
    ≡ Some (template_of layout)
at_template layouts layout = by (knows layouts layout) refl where
  by : (t : Bool) → knows layouts layout ≡ t
      → at_number (templates_from 256 (cond t layouts (layouts ++ layout ∷ []))) (template_id layouts layout)
      ≡ Some (template_of layout)
  by true k = at_known 256 (template_id layouts layout) layouts layout k refl
  by false k = at_end 256 (template_id layouts layout) layouts layout
      (ap (λ (n : ℕ). 256 + n) (place_new layouts layout k))

place_few : (layout : Layout) (ls : List Layout) → position_or_len (same_layout layout) ls ≤ length ls
place_few layout [] = omega arith
place_few layout (l ∷ ls) = by (place_few layout ls) (same_layout layout l) refl where
  by : position_or_len (same_layout layout) ls ≤ length ls → (t : Bool) → same_layout layout l ≡ t
      → position_or_len (same_layout layout) (l ∷ ls) ≤ suc (length ls)
  by ih true s = omega (arith, place_first (same_layout layout) l ls true s)
  by ih false s = omega (arith, place_first (same_layout layout) l ls false s)

-- ids are below 2 to the 16 where there are few layouts
pub id_few : (layouts : List Layout) (layout : Layout) → template_id layouts layout ≤ 256 + length layouts
id_few layouts layout = omega (arith, place_few layout layouts)
