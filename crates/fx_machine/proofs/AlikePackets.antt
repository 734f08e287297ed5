-- What names only some axes does the same with packets that are alike on these.
use Rattle.std.proofs.Common.{◌≡◌, ◌≢◌, ℕ, zero, suc, ◌+◌, ◌≤◌, ◌&&◌, Bool, true, false, cond, not, nat_le, List, [], ◌∷◌, ◌++◌, map, All, Option, Some, None, IfSome, refl, sym, ap, ap₂, ◌∙◌, subst, arith, le-leb, slice_get, if◌then◌else◌}
use Rattle.std.specs.List.{list_all}
use Rattle.fx_base.specs.declared.counts.Counts.{Counts}
use Rattle.fx_elements.specs.declared.axis.Axis.{Axis}
use Rattle.fx_elements.specs.Axes.{Fields, field, tops, axes, axis_index, axis_width}
use Rattle.fx_boxes.specs.Boxes.{Bounds, holds, is_between}
use Rattle.fx_layout.specs.declared.layout.Part.{Part}
use Rattle.fx_layout.specs.Keys.{Layout, Key, key_of, leading_bits, same_key}
use Rattle.fx_tables.specs.declared.packet.Packet.{Packet}
use Rattle.fx_tables.specs.declared.observation.Occurrence.{Occurrence}
use Rattle.fx_tables.specs.declared.observation.Selection.{Selection}
use Rattle.fx_run_text.specs.declared.step.Step.{Step}
use Rattle.fx_run_text.specs.declared.step.Step.TheVariants.{Cross, Expire, Arrive}
use Rattle.fx_tables.specs.declared.traffic.Crossing.{Crossing}
use Rattle.fx_tables.specs.Network.{Net, DeviceEntry, Point, Holder, entries, layout_of, points_of}
use Rattle.fx_base.specs.Entries.{entry_numbered}
use Rattle.fx_tables.specs.Classes.{Class, IsOf, exempts, path, paths_of, to_count}
use Rattle.fx_tables.specs.Occurrences.{selects, occurrence, met_by, met_at, occurrences, watches}
use Rattle.fx_machine.specs.States.{State, Coming, coming_from, crossings_from, opening}
use Rattle.fx_machine.specs.Acts.{Act, Hold, Choices, Outcome, all_acts}
use Rattle.fx_machine.specs.Steps.{meet, crossing_acts, cross_now, after_cross, after, then_run, run, place}
use Rattle.fx_machine.specs.Moves.{Runs}
use Rattle.fx_machine.specs.Sums.{plain_sum, one_more, IsBelow, SumsFit}
use Rattle.fx_tables.specs.NamedAxes.{AgreeOnAxes, FitsElsewhere, IsAlike, AreAlike, LayoutNamesOnly, RegionNamesOnly, PointNamesOnly, NamesOnly, ClassesNameOnly}
use Rattle.fx_machine.proofs.RunsAreMoves.{runs_of, steps_of}

-- ---- all of a list

pub all_tail : {A : Type 0} (P : A → Type 0) (x : A) (xs : List A) → All P (x ∷ xs) → All P xs
all_tail P x xs h k d lt = h (suc k) d (omega (arith, lt))

pub all_head : {A : Type 0} (P : A → Type 0) (x : A) (xs : List A) → All P (x ∷ xs) → P x
all_head P x xs h = h 0 x (omega arith)

-- what holds of all holds of each that is there
pub all_get : {A : Type 0} (P : A → Type 0) (xs : List A) (n : ℕ) → All P xs → IfSome (slice_get xs n) P
all_get P [] n h = tt
all_get P (x ∷ xs) zero h = all_head P x xs h
all_get P (x ∷ xs) (suc n) h = all_get P xs n (all_tail P x xs h)

pub all_numbered : {A : Type 0} (P : A → Type 0) (xs : List A) (n : ℕ) → All P xs → IfSome (entry_numbered xs n) P
all_numbered P xs zero h = tt
all_numbered P xs (suc n) h = all_get P xs n h

module _ (named : Axis → Bool) where
  -- ---- keys

  values_same : (f g : Fields) (layout : Layout) → LayoutNamesOnly named layout → AgreeOnAxes named f g
      → map (λ (part : Part). leading_bits (axis_width part.axis) part.bits (field f part.axis)) layout
      ≡ map (λ (part : Part). leading_bits (axis_width part.axis) part.bits (field g part.axis)) layout
  values_same f g [] only agree = refl
  values_same f g (part ∷ parts) only agree =
      ap₂ (λ (v : ℕ) (vs : List ℕ). v ∷ vs)
      (ap (λ v. leading_bits (axis_width part.axis) part.bits v)
      (agree part.axis (all_head (λ (p : Part). named p.axis ≡ true) part parts only)))
      (values_same f g parts (all_tail (λ (p : Part). named p.axis ≡ true) part parts only) agree)

  pub key_same : (f g : Fields) (layout : Layout) → LayoutNamesOnly named layout → AgreeOnAxes named f g
      → key_of layout f ≡ key_of layout g
  key_same f g layout only agree =
      ap (λ (vs : List ℕ). let k : Key = record { layout = layout; values = vs } in k)
      (values_same f g layout only agree)

  -- ---- regions

  between_if : (b : Bounds) (f : Fields) (axis : Axis) → field b.low axis ≤ field f axis → field f axis
      ≤ field b.high axis → is_between b f (axis_index axis) ≡ true
  between_if b f axis low high =
      ap₂ (λ s t. s && t) (le-leb (field b.low axis) (field f axis) low)
      (le-leb (field f axis) (field b.high axis) high)

  -- all values are between 0 and the top
  between_all : (b : Bounds) (f : Fields) (axis : Axis) → (field b.low axis ≡ 0) × (field b.high axis ≡ field tops axis)
      → field f axis ≤ field tops axis → is_between b f (axis_index axis) ≡ true
  between_all b f axis whole fits =
      between_if b f axis (omega (arith, whole.0)) (omega (arith, whole.1, fits))

  between_same : (b : Bounds) (f g : Fields) → RegionNamesOnly named b → AgreeOnAxes named f g → FitsElsewhere named f
      → FitsElsewhere named g → (axis : Axis) → is_between b f (axis_index axis) ≡ is_between b g (axis_index axis)
  between_same b f g only agree f_fits g_fits axis = cases (named axis) refl
    where
      cases : (t : Bool) → named axis ≡ t → is_between b f (axis_index axis) ≡ is_between b g (axis_index axis)
      cases true is = ap (λ v. nat_le (field b.low axis) v && nat_le v (field b.high axis)) (agree axis is)
      cases false is =
          between_all b f axis (only axis is) (f_fits axis is)
          ∙ sym (between_all b g axis (only axis is) (g_fits axis is))

  pub holds_same : (b : Bounds) (f g : Fields) → RegionNamesOnly named b → AgreeOnAxes named f g → FitsElsewhere named f
      → FitsElsewhere named g → holds b f ≡ holds b g
  holds_same b f g only agree f_fits g_fits =
      ap (λ (test : Axis → Bool). list_all test axes) (λ i. λ axis. between_same b f g only agree f_fits g_fits axis i)

  selects_same : (r : Option Bounds) (f g : Fields) → IfSome r (RegionNamesOnly named) → AgreeOnAxes named f g
      → FitsElsewhere named f → FitsElsewhere named g → selects r f ≡ selects r g
  selects_same None f g only agree f_fits g_fits = refl
  selects_same (Some b) f g only agree f_fits g_fits = holds_same b f g only agree f_fits g_fits

  -- ---- where a packet is metered

  met_by_same : (point process : ℕ) (ss : List Selection) (f g : Fields)
      → All (λ (s : Selection). IfSome s.region (RegionNamesOnly named)) ss → AgreeOnAxes named f g
      → FitsElsewhere named f → FitsElsewhere named g → met_by point process ss f ≡ met_by point process ss g
  met_by_same point process [] f g only agree f_fits g_fits = refl
  met_by_same point process (s ∷ ss) f g only agree f_fits g_fits =
      ap₂ (λ (t : Bool) (os : List Occurrence). (if t then occurrence point process s.holder else []) ++ os)
      (selects_same s.region f g (all_head (λ (s : Selection). IfSome s.region (RegionNamesOnly named)) s ss only) agree
      f_fits g_fits)
      (met_by_same point (process + 1) ss f g
      (all_tail (λ (s : Selection). IfSome s.region (RegionNamesOnly named)) s ss only) agree f_fits g_fits)

  met_at_same : (n : ℕ) (points : List Point) (crossing : Crossing) (f g : Fields) → All (PointNamesOnly named) points
      → AgreeOnAxes named f g → FitsElsewhere named f → FitsElsewhere named g → met_at n points crossing f
      ≡ met_at n points crossing g
  met_at_same n [] crossing f g only agree f_fits g_fits = refl
  met_at_same n (point ∷ points) crossing f g only agree f_fits g_fits =
      ap₂ (λ (here : List Occurrence) (os : List Occurrence). (if watches point crossing then here else []) ++ os)
      (met_by_same n 1 point.selections f g (all_head (PointNamesOnly named) point points only) agree f_fits g_fits)
      (met_at_same (n + 1) points crossing f g (all_tail (PointNamesOnly named) point points only) agree f_fits g_fits)

  points_only : (d : Option DeviceEntry) → IfSome d (λ (device : DeviceEntry). All (PointNamesOnly named) device.points)
      → All (PointNamesOnly named) (points_of d)
  points_only None h = λ k d lt. absurd (omega (arith, lt))
  points_only (Some device) h = h

  layout_only : (h : Option Holder) → IfSome h (λ (holder : Holder). LayoutNamesOnly named holder.layout)
      → LayoutNamesOnly named (layout_of h)
  layout_only None h = λ k d lt. absurd (omega (arith, lt))
  layout_only (Some holder) h = h

  module _ (net : Net) (only : NamesOnly named net) where
    occurrences_same : (crossing : Crossing) (f g : Fields) → AgreeOnAxes named f g → FitsElsewhere named f
        → FitsElsewhere named g → occurrences net crossing f ≡ occurrences net crossing g
    occurrences_same crossing f g agree f_fits g_fits =
        met_at_same 1 (points_of (entry_numbered net.devices crossing.device)) crossing f g
        (points_only (entry_numbered net.devices crossing.device)
        (all_numbered (λ (device : DeviceEntry). All (PointNamesOnly named) device.points) net.devices crossing.device
        only.selections))
        agree f_fits g_fits

    meet_same : (f g : Fields) → AgreeOnAxes named f g → (o : Occurrence) → meet net f o ≡ meet net g o
    meet_same f g agree o =
        ap (λ (k : Key). Hold o.holder k)
        (key_same f g (layout_of (slice_get net.holders o.holder))
        (layout_only (slice_get net.holders o.holder)
        (all_get (λ (holder : Holder). LayoutNamesOnly named holder.layout) net.holders o.holder only.holders))
        agree)

    acts_same : (c : Option Crossing) (f g : Fields) → AgreeOnAxes named f g → FitsElsewhere named f
        → FitsElsewhere named g → crossing_acts net f c ≡ crossing_acts net g c
    acts_same None f g agree f_fits g_fits = refl
    acts_same (Some c) f g agree f_fits g_fits =
        ap₂ (λ (m : Occurrence → Act) (os : List Occurrence). map m os) (λ i. λ o. meet_same f g agree o i)
        (occurrences_same c f g agree f_fits g_fits)

  -- ---- packets that are alike

  abbrev pub AreAlikeIfThere : Option Packet → Option Packet → Type 0
  AreAlikeIfThere None None = Unit {0}
  AreAlikeIfThere (Some p) (Some q) = IsAlike named p q
  AreAlikeIfThere None (Some q) = ⊥
  AreAlikeIfThere (Some p) None = ⊥

  pub get_alike : (ps qs : List Packet) (n : ℕ) → AreAlike named ps qs
      → AreAlikeIfThere (slice_get ps n) (slice_get qs n)
  get_alike [] [] n h = tt
  get_alike [] (q ∷ qs) n h = absurd h
  get_alike (p ∷ ps) [] n h = absurd h
  get_alike (p ∷ ps) (q ∷ qs) zero h = h.0
  get_alike (p ∷ ps) (q ∷ qs) (suc n) h = get_alike ps qs n h.1

  pub numbered_alike : (ps qs : List Packet) (n : ℕ) → AreAlike named ps qs
      → AreAlikeIfThere (entry_numbered ps n) (entry_numbered qs n)
  numbered_alike ps qs zero h = tt
  numbered_alike ps qs (suc n) h = get_alike ps qs n h

  pub path_same : (classes : List Class) (p q : Packet) → IsAlike named p q → path classes p ≡ path classes q
  path_same classes p q alike =
      ap₂ (λ (c n : ℕ). entries (entry_numbered (paths_of (entry_numbered classes c)) n)) alike.class alike.path

  -- ---- steps and runs

  module _ (net : Net) (classes : List Class) (only : NamesOnly named net) where
    cross_same : (p q : Option Packet) → AreAlikeIfThere p q → (crossing : ℕ) (s : State) (choices : Choices)
        → cross_now net classes p crossing s choices ≡ cross_now net classes q crossing s choices
    cross_same None None h crossing s choices = refl
    cross_same None (Some q) h crossing s choices = absurd h
    cross_same (Some p) None h crossing s choices = absurd h
    cross_same (Some p) (Some q) h crossing s choices =
        ap₂ (λ (c : Counts) (acts : List Act). all_acts net c acts s choices)
        (ap (λ (n : ℕ). let c : Counts = record { packets = 1; octets = n } in c) h.octets)
        (ap (λ (cs : List Crossing). crossing_acts net p.fields (entry_numbered cs crossing)) (path_same classes p q h)
        ∙ acts_same net only (entry_numbered (path classes q) crossing) p.fields q.fields h.agree h.first_fits
        h.second_fits)

    after_cross_same : (p q : Option Packet) → AreAlikeIfThere p q
        → (n : Option ℕ) (crossing : ℕ) (s : State) (choices : Choices) → after_cross net classes p n crossing s choices
        ≡ after_cross net classes q n crossing s choices
    after_cross_same p q h None crossing s choices = refl
    after_cross_same p q h (Some n) crossing s choices = cross_same p q h crossing _ choices

    pub after_same : (ps qs : List Packet) → AreAlike named ps qs → (step : Step) (s : State)
        → after net classes ps step s ≡ after net classes qs step s
    after_same ps qs h (Cross packet crossing choices) s =
        after_cross_same (entry_numbered ps packet) (entry_numbered qs packet) (numbered_alike ps qs packet h)
        (place s.coming packet crossing) crossing s choices
    after_same ps qs h (Expire holder number choices) s = refl
    after_same ps qs h (Arrive link number choices) s = refl

    pub run_same : (ps qs : List Packet) → AreAlike named ps qs → (steps : List Step) (s : State)
        → run net classes ps steps s ≡ run net classes qs steps s
    run_same ps qs h [] s = refl
    run_same ps qs h (step ∷ steps) s =
        ap₂ (λ (o : Outcome) (next : State → Outcome). then_run o next) (after_same ps qs h step s)
        (λ i. λ now. run_same ps qs h steps now i)

    pub runs_same : (ps qs : List Packet) → AreAlike named ps qs → (s final : State) → Runs net classes ps s final
        → Runs net classes qs s final
    runs_same ps qs h s final runs =
        let written = steps_of net classes ps s final runs in
        runs_of net classes qs written.0 s final (sym (run_same ps qs h written.0 s) ∙ written.1)

  -- ---- the opening

  coming_same : (classes : List Class) (n : ℕ) (ps qs : List Packet) → AreAlike named ps qs → coming_from classes n ps
      ≡ coming_from classes n qs
  coming_same classes n [] [] h = refl
  coming_same classes n [] (q ∷ qs) h = absurd h
  coming_same classes n (p ∷ ps) [] h = absurd h
  coming_same classes n (p ∷ ps) (q ∷ qs) h =
      ap₂ (λ (cs : List Crossing) (more : List Coming). crossings_from n 1 cs ++ more) (path_same classes p q h.0)
      (coming_same classes (suc n) ps qs h.1)

  pub opening_same : (net : Net) (classes : List Class) (ps qs : List Packet) → AreAlike named ps qs
      → opening net classes ps ≡ opening net classes qs
  opening_same net classes ps qs h =
      ap (λ (cs : List Coming). record (opening net classes ps) { coming = cs }) (coming_same classes 1 ps qs h)

  -- ---- sums

  pub sum_same : (layout : Layout) → LayoutNamesOnly named layout → (key : Key) (ps qs : List Packet)
      → AreAlike named ps qs → plain_sum layout key ps ≡ plain_sum layout key qs
  sum_same layout only key [] [] h = refl
  sum_same layout only key [] (q ∷ qs) h = absurd h
  sum_same layout only key (p ∷ ps) [] h = absurd h
  sum_same layout only key (p ∷ ps) (q ∷ qs) h =
      let rest = sum_same layout only key ps qs h.1 in
      let first = key_same p.fields q.fields layout only h.0.agree in
      ap₂ (λ (k : Key) (more : Option Counts). if same_key k key then Some (one_more p.octets more) else more) first
      rest
      ∙ ap (λ (n : ℕ). if same_key (key_of layout q.fields) key then Some (one_more n (plain_sum layout key qs))
      else plain_sum layout key qs) h.0.octets

  both_counted : (s t : Bool) (p q : Packet) (ps qs : List Packet) → s ≡ t → IsAlike named p q → AreAlike named ps qs
      → AreAlike named (cond s (p ∷ ps) ps) (cond t (q ∷ qs) qs)
  both_counted true true p q ps qs is h rest = (h, rest)
  both_counted true false p q ps qs is h rest = absurd (cc)
  both_counted false true p q ps qs is h rest = absurd (cc)
  both_counted false false p q ps qs is h rest = rest

  -- those to count are alike, since classes are the same
  pub to_count_alike : (classes : List Class) (ps qs : List Packet) → AreAlike named ps qs
      → AreAlike named (to_count classes ps) (to_count classes qs)
  to_count_alike classes [] [] h = tt
  to_count_alike classes [] (q ∷ qs) h = absurd h
  to_count_alike classes (p ∷ ps) [] h = absurd h
  to_count_alike classes (p ∷ ps) (q ∷ qs) h =
      both_counted (not (exempts (entry_numbered classes p.class))) (not (exempts (entry_numbered classes q.class))) p q
      (to_count classes ps) (to_count classes qs)
      (ap (λ (n : ℕ). not (exempts (entry_numbered classes n))) h.0.class) h.0 (to_count_alike classes ps qs h.1)

  pub fit_same : (layout : Layout) → LayoutNamesOnly named layout → (ps qs : List Packet) → AreAlike named ps qs
      → SumsFit layout ps → SumsFit layout qs
  fit_same layout only ps qs h fit key = subst (λ (c : Option Counts). IfSome c IsBelow)
      (sum_same layout only key ps qs h) (fit key)

  -- ---- classes

  of_same : (c : Option Class) (p q : Packet) → IfSome c (λ (class : Class). RegionNamesOnly named class.region)
      → IsAlike named p q → IsOf p c → IsOf q c
  of_same None p q only h is = is
  of_same (Some class) p q only h is = (
    sym (holds_same class.region p.fields q.fields only h.agree h.first_fits h.second_fits) ∙ is.0,
    subst (λ (n : ℕ). entry_numbered class.paths n ≢ None) h.path is.1,
  )

  pub of_class_same : (classes : List Class) (p q : Packet) → ClassesNameOnly named classes → IsAlike named p q
      → IsOf p (entry_numbered classes p.class) → IsOf q (entry_numbered classes q.class)
  of_class_same classes p q only h is =
      subst (λ (n : ℕ). IsOf q (entry_numbered classes n)) h.class
      (of_same (entry_numbered classes p.class) p q
      (all_numbered (λ (class : Class). RegionNamesOnly named class.region) classes p.class only) h is)

  -- ---- the other way round

  pub alike_back : (p q : Packet) → IsAlike named p q → IsAlike named q p
  alike_back p q h = record {
    octets = sym h.octets;
    class = sym h.class;
    path = sym h.path;
    agree = λ axis is. sym (h.agree axis is);
    first_fits = h.second_fits;
    second_fits = h.first_fits;
  }

  pub back : (ps qs : List Packet) → AreAlike named ps qs → AreAlike named qs ps
  back [] [] h = tt
  back [] (q ∷ qs) h = absurd h
  back (p ∷ ps) [] h = absurd h
  back (p ∷ ps) (q ∷ qs) h = (alike_back p q h.0, back ps qs h.1)
