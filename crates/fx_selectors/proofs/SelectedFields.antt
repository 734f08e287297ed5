-- A process selects the fields that are within the bounds that its selectors leave.
use Rattle.std.proofs.Common.{◌≡◌, ℕ, ◌≤◌, Bool, true, false, ◌==◌, nat_le, max, min, List, [], ◌∷◌, length, get_or, Option, Some, None, IfSome, IfNone, refl, sym, ap, ◌∙◌, arith, leb-true, le-leb, eqb-true, eq-eqb, subst}
use Rattle.std.proofs.Math.Nat.{le-max_left, le-max_right, max-le, le-min, min-le_left, min-le_right}
use Rattle.std.specs.Option.{unwrap_or}
use Rattle.std.proofs.lemmas.List.{get_or-set_same, get_or-set_other, length-set}
use Rattle.std.specs.List.{list_all, fold}
use Rattle.fx_elements.specs.Axes.{Fields, field, axis_count, axis_index, tops}
use Rattle.fx_boxes.specs.Boxes.{Bounds, Holds, IsFields, holds}
use Rattle.fx_boxes.proofs.Holding.{holds_if, holds_is}
use Rattle.fx_elements.proofs.EveryAxis.{index_below, placed, value_at}
use Rattle.fx_layout.proofs.Projections.{and_true}
use Rattle.fx_config.specs.declared.property_match.PropertyMatch.{PropertyMatch}
use Rattle.fx_config.specs.declared.selector.Method.{Method}
use Rattle.fx_config.specs.declared.selector.Method.TheVariants.{SelectAll, FilterMatch}
use Rattle.fx_config.specs.declared.selector.Selector.{Selector}
use Rattle.fx_config.specs.declared.selection_process.SelectionProcess.{SelectionProcess}
use Rattle.fx_selectors.specs.Selection.{has, passes, selects, everything, bounds_within, narrowed_by, bounds_of, has_room, region_of, region_within}

some_is : {A : Type 0} {x y : A} → ◌≡◌ {A = Option A} (Some x) (Some y) → x ≡ y
some_is {A} {x} h = ap (λ (o : Option A). unwrap_or o x) h

none_some : {A : Type 0} {x : A} → ◌≡◌ {A = Option A} None (Some x) → ⊥
none_some h = absurd (cc)

-- bounds have a value for each axis
abbrev IsWhole : Bounds → Type 0
IsWhole b = (length b.low ≡ axis_count) × (length b.high ≡ axis_count)

narrowed_whole : (b : Bounds) (m : PropertyMatch) → IsWhole b → IsWhole (bounds_within b m)
narrowed_whole b m whole = (length-set b.low _ _ ∙ whole.0, length-set b.high _ _ ∙ whole.1)

-- where each place is the axis of the match or another
low_own : (b : Bounds) (m : PropertyMatch) → IsWhole b → get_or (bounds_within b m).low (axis_index m.axis) 0
    ≡ max (field b.low m.axis) m.range.low
low_own b m whole = get_or-set_same b.low (axis_index m.axis) _ 0
    (let small = index_below m.axis in omega (arith, small, whole.0))

high_own : (b : Bounds) (m : PropertyMatch) → IsWhole b → get_or (bounds_within b m).high (axis_index m.axis) 0
    ≡ min (field b.high m.axis) m.range.high
high_own b m whole = get_or-set_same b.high (axis_index m.axis) _ 0
    (let small = index_below m.axis in omega (arith, small, whole.1))

-- another place
other : (k i : ℕ) → (k == i) ≡ false → k ≡ i → ⊥
other k i h e = let yes = eq-eqb k i e in cc (yes, h)

-- fields are within what a match leaves where they are within the bounds and have one of its values
module _ (b : Bounds) (m : PropertyMatch) (f : Fields) (whole : IsWhole b) where
  -- at a place
  abbrev Before : ℕ → Type 0
  Before k = (get_or b.low k 0 ≤ get_or f k 0) × (get_or f k 0 ≤ get_or b.high k 0)

  abbrev After : ℕ → Type 0
  After k = (get_or (bounds_within b m).low k 0 ≤ get_or f k 0) × (get_or f k 0 ≤ get_or (bounds_within b m).high k 0)

  abbrev IsAmong : Type 0
  IsAmong = (m.range.low ≤ field f m.axis) × (field f m.axis ≤ m.range.high)

  after_own : Before (axis_index m.axis) → IsAmong → After (axis_index m.axis)
  after_own before among = (
    rw (low_own b m whole) (max-le before.0 among.0),
    rw (high_own b m whole)
        (le-min before.1 among.1),
  )

  before_own : After (axis_index m.axis) → Before (axis_index m.axis)
  before_own after =
      let low = rw (low_own b m whole) at after.0 in
      let high = rw (high_own b m whole) at after.1 in
      let most = le-max_left (field b.low m.axis) m.range.low in
      let least = min-le_left (field b.high m.axis) m.range.high in
      (omega (arith, low, most), omega (arith, high, least))

  among_own : After (axis_index m.axis) → IsAmong
  among_own after =
      let low = rw (low_own b m whole) at after.0 in
      let high = rw (high_own b m whole) at after.1 in
      let most = le-max_right (field b.low m.axis) m.range.low in
      let least = min-le_right (field b.high m.axis) m.range.high in
      (omega (arith, low, most), omega (arith, high, least))

  same_low : (k : ℕ) → (k ≡ axis_index m.axis → ⊥) → get_or (bounds_within b m).low k 0 ≡ get_or b.low k 0
  same_low k differs = get_or-set_other b.low (axis_index m.axis) k _ 0 differs

  same_high : (k : ℕ) → (k ≡ axis_index m.axis → ⊥) → get_or (bounds_within b m).high k 0 ≡ get_or b.high k 0
  same_high k differs = get_or-set_other b.high (axis_index m.axis) k _ 0 differs

  after_at : IsAmong → (k : ℕ) → Before k → After k
  after_at among k = elim (k == axis_index m.axis) as (λ t. (k == axis_index m.axis) ≡ t → Before k → After k) [
    | true ↦ λ e before. subst After (sym (eqb-true k _ e)) (after_own (subst Before (eqb-true k _ e) before) among)
    | false ↦ λ e before. (rw (same_low k (other k _ e)) before.0, rw (same_high k (other k _ e)) before.1)
  ] refl

  before_at : (k : ℕ) → After k → Before k
  before_at k = elim (k == axis_index m.axis) as (λ t. (k == axis_index m.axis) ≡ t → After k → Before k) [
    | true ↦ λ e after. subst Before (sym (eqb-true k _ e)) (before_own (subst After (eqb-true k _ e) after))
    | false ↦ λ e after. (rw (same_low k (other k _ e)) at after.0, rw (same_high k (other k _ e)) at after.1)
  ] refl

  has_if : IsAmong → has m f ≡ true
  has_if among = rw (le-leb _ _ among.0, le-leb _ _ among.1) refl

  has_is : has m f ≡ true → IsAmong
  has_is h = let parts = and_true (nat_le m.range.low (field f m.axis)) _ h in
      (leb-true _ _ parts.0, leb-true _ _ parts.1)

  within_if : Holds b f → has m f ≡ true → Holds (bounds_within b m) f
  within_if h t k lt = after_at (has_is t) k (h k lt)

  within_is : Holds (bounds_within b m) f → Holds b f × (has m f ≡ true)
  within_is h = (λ k lt. before_at k (h k lt), has_if (among_own (h _ (index_below m.axis))))

-- no bound passes the greatest value
narrowed_fields : (b : Bounds) (m : PropertyMatch) → IsWhole b → IsFields b.high → IsFields (bounds_within b m).high
narrowed_fields b m whole fields k lt =
    elim (k == axis_index m.axis) as (λ t. (k == axis_index m.axis) ≡ t → get_or (bounds_within b m).high k 0
    ≤ get_or tops k 0) [
      | true ↦ λ e.
          let i = eqb-true k (axis_index m.axis) e in
          let own = high_own b m whole in
          let least = min-le_left (field b.high m.axis) m.range.high in
          let before = fields (axis_index m.axis) (index_below m.axis) in
          subst (λ (n : ℕ). get_or (bounds_within b m).high n 0 ≤ get_or tops n 0) (sym i)
          (rw own (omega (arith, least, before)))
      | false ↦ λ e. rw (get_or-set_other b.high (axis_index m.axis) k _ 0 (other k _ e)) (fields k lt)
    ] refl

-- ---- all selectors

abbrev left : Bounds → List Selector → Bounds
left b selectors = fold (λ c selector. narrowed_by c selector.method) b selectors

abbrev all_pass : List Selector → Fields → Bool
all_pass selectors f = list_all (λ selector. passes selector.method f) selectors

step_whole : (b : Bounds) (method : Method) → IsWhole b → IsWhole (narrowed_by b method)
step_whole b SelectAll whole = whole
step_whole b (FilterMatch m) whole = narrowed_whole b m whole

step_fields : (b : Bounds) (method : Method) → IsWhole b → IsFields b.high → IsFields (narrowed_by b method).high
step_fields b SelectAll whole fields = fields
step_fields b (FilterMatch m) whole fields = narrowed_fields b m whole fields

step_if : (b : Bounds) (method : Method) (f : Fields) → IsWhole b → Holds b f → passes method f ≡ true
    → Holds (narrowed_by b method) f
step_if b SelectAll f whole h t = h
step_if b (FilterMatch m) f whole h t = within_if b m f whole h t

step_is : (b : Bounds) (method : Method) (f : Fields) → IsWhole b → Holds (narrowed_by b method) f → Holds b f
    × (passes method f ≡ true)
step_is b SelectAll f whole h = (h, refl)
step_is b (FilterMatch m) f whole h = within_is b m f whole h

left_if : (b : Bounds) (ss : List Selector) (f : Fields) → IsWhole b → Holds b f → all_pass ss f ≡ true
    → Holds (left b ss) f
left_if b [] f whole h t = h
left_if b (s ∷ ss) f whole h t =
    let parts = and_true (passes s.method f) (all_pass ss f) t in
    left_if (narrowed_by b s.method) ss f (step_whole b s.method whole) (step_if b s.method f whole h parts.0) parts.1

left_is : (b : Bounds) (ss : List Selector) (f : Fields) → IsWhole b → Holds (left b ss) f → Holds b f
    × (all_pass ss f ≡ true)
left_is b [] f whole h = (h, refl)
left_is b (s ∷ ss) f whole h =
    let rest = left_is (narrowed_by b s.method) ss f (step_whole b s.method whole) h in
    let here = step_is b s.method f whole rest.0 in
    (here.0, rw (here.1, rest.1) refl)

left_fields : (b : Bounds) (ss : List Selector) → IsWhole b → IsFields b.high → IsFields (left b ss).high
left_fields b [] whole fields = fields
left_fields b (s ∷ ss) whole fields = left_fields (narrowed_by b s.method) ss (step_whole b s.method whole)
    (step_fields b s.method whole fields)

everything_whole : IsWhole everything
everything_whole = (refl, refl)

tops_fields : IsFields everything.high
tops_fields k lt = omega arith

in_everything : (f : Fields) → IsFields f → Holds everything f
in_everything f fields k lt =
    let at = placed k lt in
    let none : ◌≡◌ {A = ℕ} (get_or everything.low k 0) 0 =
    subst (λ (n : ℕ). ◌≡◌ {A = ℕ} (get_or everything.low n 0) 0) at.1 (value_at (λ axis. 0) at.0) in
    (omega (arith, none), fields k lt)

-- ---- the region of a process

same_answer : (a b : Bool) → (a ≡ true → b ≡ true) → (b ≡ true → a ≡ true) → a ≡ b
same_answer true b there back = sym (there refl)
same_answer false true there back = back refl
same_answer false false there back = refl

-- fields within what is left are those that pass all selectors
left_selects : (process : SelectionProcess) (f : Fields) → IsFields f → holds (bounds_of process.selectors) f
    ≡ selects process f
left_selects process f fields =
    same_answer _ _
    (λ h. (left_is everything process.selectors f everything_whole (holds_is _ f h)).1)
    (λ t. holds_if _ f (left_if everything process.selectors f everything_whole (in_everything f fields) t))

-- where fields are left, the bounds have room
room_by : (b : Bounds) (f : Fields) → IsFields b.high → Holds b f → has_room b ≡ true
room_by b f fields h = holds_if (record { low = b.low; high = tops }) b.high
    (λ k lt. let here = h k lt in (omega (arith, here.0, here.1), fields k lt))

region_is : (b r : Bounds) → region_within b ≡ Some r → r ≡ b
region_is b r = elim (has_room b) as (λ t. has_room b ≡ t → region_within b ≡ Some r → r ≡ b) [
  | true ↦ λ e h. sym (some_is (sym (rw e refl) ∙ h))
  | false ↦ λ e h. absurd (none_some (sym (rw e refl) ∙ h))
] refl

region_selects : (process : SelectionProcess) (r : Bounds) → region_of process ≡ Some r → (f : Fields) → IsFields f
    → holds r f ≡ selects process f
region_selects process r h f fields = rw (region_is (bounds_of process.selectors) r h) (left_selects process f fields)

no_region_selects : (process : SelectionProcess) → region_of process ≡ None → (f : Fields) → IsFields f
    → selects process f ≡ false
no_region_selects process h f fields = elim (selects process f)
    as (λ t. selects process f ≡ t → selects process f ≡ false) [
      | true ↦ λ e. absurd (none_some {x = bounds_of process.selectors}
          (sym h ∙ rw (room_by (bounds_of process.selectors) f
          (left_fields everything process.selectors everything_whole tops_fields)
          (left_if everything process.selectors f everything_whole (in_everything f fields) e)) refl))
      | false ↦ λ e. e
    ] refl

pub some_selects : (process : SelectionProcess) (o : Option Bounds) → o ≡ region_of process
    → IfSome o (λ region. (f : Fields) → IsFields f → holds region f ≡ selects process f)
some_selects process None is = tt
some_selects process (Some r) is = region_selects process r (sym is)

pub none_selects : (process : SelectionProcess) (o : Option Bounds) → o ≡ region_of process
    → IfNone o ((f : Fields) → IsFields f → selects process f ≡ false)
none_selects process None is = no_region_selects process (sym is)
none_selects process (Some r) is = tt
