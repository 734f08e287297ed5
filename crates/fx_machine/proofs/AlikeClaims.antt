-- What is promised of packets of one kind is promised of all packets, where each is alike to one of the kind.
use Rattle.std.proofs.Common.{◌≡◌, ◌↔◌, ℕ, zero, suc, Bool, true, false, List, [], ◌∷◌, map, All, Option, Some, None, IfSome, option_map, refl, sym, ap, ◌∙◌, subst, arith, if◌then◌else◌}
use Rattle.fx_base.specs.declared.counts.Counts.{Counts}
use Rattle.fx_elements.specs.declared.axis.Axis.{Axis}
use Rattle.fx_elements.specs.declared.axis.Axis.TheVariants.{Source, Destination, Protocol, SourcePort, DestinationPort, ClassOfService, Version, Source6, Destination6}
use Rattle.fx_elements.specs.Axes.{Fields, field, axes, axis_index}
use Rattle.fx_elements.proofs.EveryAxis.{value_at, index_below}
use Rattle.fx_boxes.specs.Boxes.{Bounds, IsFields, holds}
use Rattle.fx_boxes.proofs.Holding.{holds_is}
use Rattle.fx_tables.specs.declared.packet.Packet.{Packet}
use Rattle.fx_tables.specs.Network.{Net}
use Rattle.fx_base.specs.Entries.{entry_numbered}
use Rattle.fx_tables.specs.Classes.{Class, IsOf, to_count}
use Rattle.fx_machine.specs.States.{State, opening}
use Rattle.fx_machine.specs.Moves.{Runs}
use Rattle.fx_machine.specs.Claim.{CountsEachOnce, CountsEachModulo, ExactlyOnce, OnceModulo, counts_modulo}
use Rattle.fx_machine.specs.ClaimsOfSome.{ExactlyOnceOf, OnceModuloOf}
use Rattle.fx_tables.specs.NamedAxes.{FitsElsewhere, HasZerosElsewhere, IsAlike, AreAlike, RegionNamesOnly, NamesOnly, ClassesNameOnly, is_of_six, HasSixValues}
use Rattle.fx_machine.proofs.AlikePackets.{all_head, all_tail, all_numbered, opening_same, runs_same, sum_same, to_count_alike, fit_same, of_class_same}

pub all_cons : {A : Type 0} (P : A → Type 0) (x : A) (xs : List A) → P x → All P xs → All P (x ∷ xs)
all_cons P x xs h hs zero d lt = h
all_cons P x xs h hs (suc k) d lt = hs k d (omega (arith, lt))

pub all_nil : {A : Type 0} (P : A → Type 0) → All P []
all_nil P k d lt = absurd (omega (arith, lt))

abbrev IsOfItsClass : List Class → Packet → Type 0
IsOfItsClass classes p = IsOf p (entry_numbered classes p.class)

module _ (named : Axis → Bool) where
  -- ---- packets that fit

  pub fields_fit : (f : Fields) → IsFields f → FitsElsewhere named f
  fields_fit f is axis other = is (axis_index axis) (index_below axis)

  region_fits : (b : Bounds) (f : Fields) → RegionNamesOnly named b → holds b f ≡ true → FitsElsewhere named f
  region_fits b f only h axis is =
      let most = (holds_is b f h (axis_index axis) (index_below axis)).1 in
      omega (arith, most, (only axis is).1)

  class_fits : (c : Option Class) (p : Packet) → IfSome c (λ (class : Class). RegionNamesOnly named class.region)
      → IsOf p c → FitsElsewhere named p.fields
  class_fits None p only is = absurd is
  class_fits (Some class) p only is = region_fits class.region p.fields only is.0

  all_fit : (classes : List Class) → ClassesNameOnly named classes → (ps : List Packet) → All (IsOfItsClass classes) ps
      → All (λ (p : Packet). FitsElsewhere named p.fields) ps
  all_fit classes only [] of_classes = all_nil (λ (p : Packet). FitsElsewhere named p.fields)
  all_fit classes only (p ∷ ps) of_classes =
      all_cons (λ (p : Packet). FitsElsewhere named p.fields) p ps
      (class_fits (entry_numbered classes p.class) p
      (all_numbered (λ (class : Class). RegionNamesOnly named class.region) classes p.class only)
      (all_head (IsOfItsClass classes) p ps of_classes))
      (all_fit classes only ps (all_tail (IsOfItsClass classes) p ps of_classes))

  all_of_classes : (classes : List Class) → ClassesNameOnly named classes → (ps qs : List Packet) → AreAlike named ps qs
      → All (IsOfItsClass classes) ps → All (IsOfItsClass classes) qs
  all_of_classes classes only [] [] alike of_classes = of_classes
  all_of_classes classes only [] (q ∷ qs) alike of_classes = absurd alike
  all_of_classes classes only (p ∷ ps) [] alike of_classes = absurd alike
  all_of_classes classes only (p ∷ ps) (q ∷ qs) alike of_classes =
      all_cons (IsOfItsClass classes) q qs
      (of_class_same named classes p q only alike.0 (all_head (IsOfItsClass classes) p ps of_classes))
      (all_of_classes classes only ps qs alike.1 (all_tail (IsOfItsClass classes) p ps of_classes))

  -- ---- one kind for all

  -- each packet that fits is alike to one of the kind
  abbrev pub Covers : (Packet → Type 0) → Type 0
  Covers IsOfKind = (p : Packet) → FitsElsewhere named p.fields → (q : Packet) × IsOfKind q × IsAlike named p q

  module _ (IsOfKind : Packet → Type 0) (covers : Covers IsOfKind) where
    others : (ps : List Packet) → All (λ (p : Packet). FitsElsewhere named p.fields) ps → (qs : List Packet)
        × All IsOfKind qs × AreAlike named ps qs
    others [] fit = ([], all_nil IsOfKind, tt)
    others (p ∷ ps) fit =
        let first = covers p (all_head (λ (p : Packet). FitsElsewhere named p.fields) p ps fit) in
        let rest = others ps (all_tail (λ (p : Packet). FitsElsewhere named p.fields) p ps fit) in
        (first.0 ∷ rest.0, all_cons IsOfKind first.0 rest.0 first.1 rest.1, (first.2, rest.2))

    module _ (net : Net) (classes : List Class) (only : NamesOnly named net)
        (classes_only : ClassesNameOnly named classes) where
      run_of_others : (ps qs : List Packet) → AreAlike named ps qs → (final : State)
          → Runs net classes ps (opening net classes ps) final → Runs net classes qs (opening net classes qs) final
      run_of_others ps qs alike final runs =
          subst (λ (s : State). Runs net classes qs s final) (opening_same named net classes ps qs alike)
          (runs_same named net classes only ps qs alike (opening net classes ps) final runs)

      once_of_all : ExactlyOnceOf IsOfKind net classes → ExactlyOnce net classes
      once_of_all claim packets of_classes fit final runs complete =
          let picked = others packets (all_fit classes classes_only packets of_classes) in
          let counted = to_count_alike named classes packets picked.0 picked.2 in
          let each : CountsEachOnce net (to_count classes picked.0) final =
          claim picked.0 picked.1 (all_of_classes classes classes_only packets picked.0 picked.2 of_classes)
          (fit_same named net.report_layout only.report (to_count classes packets) (to_count classes picked.0) counted
          fit)
          final (run_of_others packets picked.0 picked.2 final runs) complete
          in
          record {
            totals = λ key. each.totals key ∙ sym (sum_same named net.report_layout only.report key
                (to_count classes packets) (to_count classes picked.0) counted);
            assigned = each.assigned;
          }

      modulo_of_all : OnceModuloOf IsOfKind net classes → OnceModulo net classes
      modulo_of_all claim packets of_classes final runs complete =
          let picked = others packets (all_fit classes classes_only packets of_classes) in
          let counted = to_count_alike named classes packets picked.0 picked.2 in
          let each : CountsEachModulo net (to_count classes picked.0) final =
          claim picked.0 picked.1 (all_of_classes classes classes_only packets picked.0 picked.2 of_classes)
          final (run_of_others packets picked.0 picked.2 final runs) complete
          in
          record {
            totals = λ key. each.totals key ∙ ap (λ (c : Option Counts). option_map counts_modulo c)
                (sym (sum_same named net.report_layout only.report key (to_count classes packets)
                (to_count classes picked.0) counted));
            assigned = each.assigned;
          }

      pub once_iff : ExactlyOnceOf IsOfKind net classes ↔ ExactlyOnce net classes
      once_iff = (once_of_all, λ claim packets kind. claim packets)

      pub modulo_iff : OnceModuloOf IsOfKind net classes ↔ OnceModulo net classes
      modulo_iff = (modulo_of_all, λ claim packets kind. claim packets)

  -- ---- zeros on the other axes

  abbrev value_or_zero : Fields → Axis → ℕ
  value_or_zero f axis = if named axis then field f axis else 0

  abbrev with_zeros : Packet → Packet
  with_zeros p = record p { fields = map (value_or_zero p.fields) axes }

  on_named : (f : Fields) (axis : Axis) → named axis ≡ true → field f axis ≡ field (map (value_or_zero f) axes) axis
  on_named f axis is = sym (value_at (value_or_zero f) axis ∙ ap (λ (t : Bool). if t then field f axis else 0) is)

  elsewhere : (f : Fields) (axis : Axis) → named axis ≡ false → field (map (value_or_zero f) axes) axis ≡ 0
  elsewhere f axis is = value_at (value_or_zero f) axis ∙ ap (λ (t : Bool). if t then field f axis else 0) is

  pub zeros_cover : Covers (HasZerosElsewhere named)
  zeros_cover p fits =
      let alike : IsAlike named p (with_zeros p) = record {
        octets = refl;
        class = refl;
        path = refl;
        agree = on_named p.fields;
        first_fits = fits;
        second_fits = λ axis is. omega (arith, elsewhere p.fields axis is);
      } in
      (with_zeros p, elsewhere p.fields, alike)

-- ---- six axes

abbrev six_values : Fields → Fields
six_values f = field f Source ∷ field f Destination ∷ field f Protocol ∷ field f SourcePort ∷ field f DestinationPort
    ∷ field f ClassOfService ∷ []

abbrev of_six : Packet → Packet
of_six p = record p { fields = six_values p.fields }

on_six : (f : Fields) (axis : Axis) → is_of_six axis ≡ true → field f axis ≡ field (six_values f) axis
on_six f Source is = refl
on_six f Destination is = refl
on_six f Protocol is = refl
on_six f SourcePort is = refl
on_six f DestinationPort is = refl
on_six f ClassOfService is = refl
on_six f Version is = absurd (cc)
on_six f Source6 is = absurd (cc)
on_six f Destination6 is = absurd (cc)

past_six : (f : Fields) (axis : Axis) → is_of_six axis ≡ false → field (six_values f) axis ≡ 0
past_six f Source is = absurd (cc)
past_six f Destination is = absurd (cc)
past_six f Protocol is = absurd (cc)
past_six f SourcePort is = absurd (cc)
past_six f DestinationPort is = absurd (cc)
past_six f ClassOfService is = absurd (cc)
past_six f Version is = refl
past_six f Source6 is = refl
past_six f Destination6 is = refl

pub six_cover : Covers is_of_six HasSixValues
six_cover p fits =
    let alike : IsAlike is_of_six p (of_six p) = record {
      octets = refl;
      class = refl;
      path = refl;
      agree = on_six p.fields;
      first_fits = fits;
      second_fits = λ axis is. omega (arith, past_six p.fields axis is);
    } in
    (of_six p, refl, alike)

-- the axes outside the six are the three of IPv6
pub zeros_are : (p : Packet) → HasZerosElsewhere is_of_six p
    ↔ ((field p.fields Version ≡ 0) × (field p.fields Source6 ≡ 0) × (field p.fields Destination6 ≡ 0))
zeros_are p = (λ zeros. (zeros Version refl, zeros Source6 refl, zeros Destination6 refl), only)
  where
    only : (field p.fields Version ≡ 0) × (field p.fields Source6 ≡ 0) × (field p.fields Destination6 ≡ 0)
        → HasZerosElsewhere is_of_six p
    only h Source is = absurd (cc)
    only h Destination is = absurd (cc)
    only h Protocol is = absurd (cc)
    only h SourcePort is = absurd (cc)
    only h DestinationPort is = absurd (cc)
    only h ClassOfService is = absurd (cc)
    only h Version is = h.0
    only h Source6 is = h.1
    only h Destination6 is = h.2
