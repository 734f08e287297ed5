-- What is noted of the values that are written: on each axis what the key has there, and the counts.
use Rattle.std.proofs.Common.{◌≡◌, ℕ, suc, ◌+◌, ◌-◌, ◌*◌, ◌^◌, ◌≤◌, ◌<◌, Bool, true, false, ◌&&◌, ◌||◌, ◌==◌, cond, List, [], ◌∷◌, ◌++◌, refl, ap, sym, ◌∙◌, subst, arith, eqb-true, Option, Some, None, append_assoc}
use Rattle.std.specs.List.{list_all, find}
use Rattle.std.specs.Prelude.{nat_le, option_map}
use Rattle.std.specs.Int.{bytes_high_first}
use Rattle.std.proofs.lemmas.Bool.{and_parts}
use Rattle.std.proofs.lemmas.Bool.Decides.{nat_tests}
use Rattle.std.proofs.lemmas.Nat.{pow-add, pow_pos}
use Rattle.std.proofs.Math.Nat.{mul-lt-mul_of_pos_right}
use Rattle.fx_base.specs.declared.counts.Counts.{Counts}
use Rattle.fx_elements.specs.declared.axis.Axis.{Axis}
use Rattle.fx_elements.specs.declared.element.Element.{Element}
use Rattle.fx_elements.specs.declared.element.Element.TheVariants.{OnAxis, OctetDeltaCount, PacketDeltaCount, Prefix, PrefixLength}
use Rattle.fx_elements.specs.Axes.{axis_index, axis_width, is_address, same_axis}
use Rattle.fx_elements.specs.Elements.{element_number, prefix_number, prefix_length_number}
use Rattle.fx_elements.proofs.EveryAxis.{on_axis, width_most}
use Rattle.fx_elements.proofs.Numbering.{element_back, prefix_back, prefix_length_back}
use Rattle.fx_layout.specs.declared.layout.Part.{Part}
use Rattle.fx_layout.specs.Keys.{Layout, HasBits, AxesAscend, can_stand}
use Rattle.fx_wire.specs.Fields.{element_of}
use Rattle.fx_wire.specs.Values.{Value}
use Rattle.fx_session.specs.Flows.{number_in, first_where, is_value, is_prefix, is_prefix_length, is_octets, is_packets}
use Rattle.fx_link.specs.Records.{specifier, axis_octets, is_whole, whole_octets, prefix_of}
use Rattle.fx_link.proofs.NumberTrip.{number_back}
use Rattle.fx_link.proofs.RecordTrip.{whole_value, prefix_value, length_value, part_values, key_values, counts_values}
use Rattle.fx_link.proofs.OnAxes.{Held, held, none_before}

-- ---- what can stand

pub eq-is : {a b c : ℕ} → (a == b) ≡ true → b ≡ c → a ≡ c
eq-is {a} {b} {c} e f = grind (arith, nat_tests)

-- one bit at least, and no more than the axis has
pub stands_some : (part : Part) → can_stand part ≡ true → 1 ≤ part.bits
stands_some part h = let b : nat_le 1 part.bits ≡ true = (and_parts (nat_le 1 part.bits) _ h).0 in
    grind (arith, nat_tests)

few_or : (a b i : Bool) (bits width : ℕ) → (bits == width) ≡ a → nat_le bits width ≡ b → (a || (i && b)) ≡ true → bits
    ≤ width
few_or true b i bits width e f h = let l : bits ≡ width = eq-is e refl in omega arith
few_or false true i bits width e f h = grind (arith, nat_tests)
few_or false false true bits width e f h = absurd cc
few_or false false false bits width e f h = absurd cc

pub stands_few : (part : Part) → can_stand part ≡ true → part.bits ≤ axis_width part.axis
stands_few part h = few_or (part.bits == axis_width part.axis) (nat_le part.bits (axis_width part.axis))
    (is_address part.axis) part.bits (axis_width part.axis) refl refl (and_parts (nat_le 1 part.bits) _ h).1

-- only addresses stand with fewer bits
pub stands_address : (part : Part) → can_stand part ≡ true → is_whole part ≡ false → is_address part.axis ≡ true
stands_address part h w = by (is_whole part) (is_address part.axis) w (and_parts (nat_le 1 part.bits) _ h).1 where
  by : (a i : Bool) → a ≡ false → (a || (i && nat_le part.bits (axis_width part.axis))) ≡ true → i ≡ true
  by true i e f = absurd cc
  by false true e f = refl
  by false false e f = absurd cc

pub prefix_fits : (part : Part) (v : ℕ) → can_stand part ≡ true → v < 2 ^ part.bits → prefix_of part v
    < 2 ^ axis_width part.axis
prefix_fits part v c h =
    let k : ℕ = axis_width part.axis - part.bits in
    let less : v * 2 ^ k < 2 ^ part.bits * 2 ^ k = mul-lt-mul_of_pos_right h (pow_pos k) in
    let few : part.bits ≤ axis_width part.axis = stands_few part c in
    let sum : part.bits + k ≡ axis_width part.axis = omega (arith, few) in
    subst (λ (n : ℕ). v * 2 ^ k < n) (sym (pow-add 2 part.bits k) ∙ ap (λ (n : ℕ). 2 ^ n) sum) less

-- ---- numbers

octets_base : (axis : Axis) → 256 ^ axis_octets axis ≡ 2 ^ axis_width axis
octets_base axis = eqb-true _ _ (on_axis (λ axis. 256 ^ axis_octets axis == 2 ^ axis_width axis) refl axis)

octets_few : (axis : Axis) → 256 ^ axis_octets axis ≤ 2 ^ 128
octets_few axis = grind (arith, nat_tests, on_axis (λ axis. nat_le (256 ^ axis_octets axis) (2 ^ 128)) refl axis)

pub whole_number : (axis : Axis) (v : ℕ) → v < 2 ^ axis_width axis → number_in (whole_octets axis v) ≡ v
whole_number axis v h = number_back (axis_octets axis) v (octets_few axis)
    (subst (λ (n : ℕ). v < n) (sym (octets_base axis)) h)

one_number : (n : ℕ) → n < 256 → number_in (n ∷ []) ≡ n
unfolding number_in
one_number n h = omega arith

count_number : (v : ℕ) → v < 2 ^ 64 → number_in (bytes_high_first 8 v) ≡ v
count_number v h = number_back 8 v (omega arith) h

-- ---- the elements of fields

pub whole_element : (axis : Axis) (n : ℕ) → element_of (specifier (element_number axis) n) ≡ OnAxis axis
unfolding element_of
whole_element axis n = element_back axis

pub prefix_element : (axis : Axis) (n : ℕ) → is_address axis ≡ true → element_of (specifier (prefix_number axis) n)
    ≡ Prefix axis
unfolding element_of
prefix_element axis n a = prefix_back axis a

pub length_element : (axis : Axis) (n : ℕ) → is_address axis ≡ true
    → element_of (specifier (prefix_length_number axis) n) ≡ PrefixLength axis
unfolding element_of
length_element axis n a = prefix_length_back axis a

pub octets_element : element_of (specifier 1 8) ≡ OctetDeltaCount
unfolding element_of
octets_element = refl

pub packets_element : element_of (specifier 2 8) ≡ PacketDeltaCount
unfolding element_of
packets_element = refl

-- ---- the first value of an element

first_by : (is : Element → Bool) (v : Value) (rest : List Value) (e : Element) (n : ℕ) → element_of v.field ≡ e
    → number_in v.content ≡ n → first_where is (v ∷ rest) ≡ cond (is e) (Some n) (first_where is rest)
first_by is v rest e n f g =
    by (is (element_of v.field)) ∙ ap (λ (x : Element). cond (is x) (Some (number_in v.content)) (first_where is rest))
    f ∙ ap (λ (m : ℕ). cond (is e) (Some m) (first_where is rest)) g where
      by : (t : Bool) → option_map (λ (w : Value). number_in w.content)
          (cond t (Some v) (find (λ w. is (element_of w.field)) rest))
          ≡ cond t (Some (number_in v.content)) (first_where is rest)
      by true = refl
      by false = refl

-- what is first among a part's values, where this comes behind them
abbrev pub first_of : (Element → Bool) → Part → ℕ → Option ℕ → Option ℕ
first_of is part v rest =
    cond (is_whole part) (cond (is (OnAxis part.axis)) (Some v) rest)
    (cond (is (Prefix part.axis)) (Some (prefix_of part v))
    (cond (is (PrefixLength part.axis)) (Some part.bits) rest))

abbrev pub first_in : (Element → Bool) → Layout → List ℕ → Option ℕ → Option ℕ
first_in is [] values rest = rest
first_in is (part ∷ parts) [] rest = rest
first_in is (part ∷ parts) (v ∷ vs) rest = first_of is part v (first_in is parts vs rest)

part_first : (is : Element → Bool) (part : Part) (v : ℕ) (rest : List Value) → can_stand part ≡ true → v < 2 ^ part.bits
    → first_where is (part_values part v ++ rest) ≡ first_of is part v (first_where is rest)
part_first is part v rest c h = by (is_whole part) refl where
  by : (t : Bool) → is_whole part ≡ t → first_where is
      (cond t (whole_value part.axis v ∷ []) (prefix_value part.axis (prefix_of part v)
      ∷ length_value part.axis part.bits ∷ []) ++ rest)
      ≡ cond t (cond (is (OnAxis part.axis)) (Some v) (first_where is rest))
      (cond (is (Prefix part.axis)) (Some (prefix_of part v))
      (cond (is (PrefixLength part.axis)) (Some part.bits) (first_where is rest)))
  by true w =
      first_by is (whole_value part.axis v) rest (OnAxis part.axis) v (whole_element part.axis (axis_octets part.axis))
      (whole_number part.axis v (subst (λ (n : ℕ). v < 2 ^ n) (eq-is w refl) h))
  by false w =
      let address : is_address part.axis ≡ true = stands_address part c w in
      let small : part.bits < 256 = omega (arith, stands_few part c, width_most part.axis) in
      first_by is (prefix_value part.axis (prefix_of part v)) (length_value part.axis part.bits ∷ rest)
      (Prefix part.axis) (prefix_of part v) (prefix_element part.axis (axis_octets part.axis) address)
      (whole_number part.axis (prefix_of part v) (prefix_fits part v c h))
      ∙ ap (λ (o : Option ℕ). cond (is (Prefix part.axis)) (Some (prefix_of part v)) o)
      (first_by is (length_value part.axis part.bits) rest (PrefixLength part.axis) part.bits
      (length_element part.axis 1 address) (one_number part.bits small))

pub key_first : (is : Element → Bool) (layout : Layout) (values : List ℕ) (rest : List Value)
    → list_all can_stand layout ≡ true → HasBits layout values
    → first_where is (key_values layout values ++ rest) ≡ first_in is layout values (first_where is rest)
key_first is [] values rest s h = refl
key_first is (part ∷ parts) [] rest s h = absurd h
key_first is (part ∷ parts) (v ∷ vs) rest s h =
    let two = and_parts (can_stand part) (list_all can_stand parts) s in
    ap (first_where is) (append_assoc (part_values part v) (key_values parts vs) rest)
    ∙ part_first is part v (key_values parts vs ++ rest) two.0 h.0
    ∙ ap (first_of is part v) (key_first is parts vs rest two.1 h.1)

-- ---- the counts

counts_first : (is : Element → Bool) (counts : Counts) → counts.octets < 2 ^ 64 → counts.packets < 2 ^ 64
    → first_where is (counts_values counts)
    ≡ cond (is OctetDeltaCount) (Some counts.octets) (cond (is PacketDeltaCount) (Some counts.packets) None)
counts_first is counts o p =
    let octets : Value = record { field = specifier 1 8; content = bytes_high_first 8 counts.octets } in
    let packets : Value = record { field = specifier 2 8; content = bytes_high_first 8 counts.packets } in
    first_by is octets (packets ∷ []) OctetDeltaCount counts.octets octets_element (count_number counts.octets o)
    ∙ ap (λ (x : Option ℕ). cond (is OctetDeltaCount) (Some counts.octets) x)
    (first_by is packets [] PacketDeltaCount counts.packets packets_element (count_number counts.packets p))

-- tests that no field of a key meets
pub passes : (is : Element → Bool) (layout : Layout) (values : List ℕ) (rest : Option ℕ)
    → ((axis : Axis) → (is (OnAxis axis) ≡ false) × (is (Prefix axis) ≡ false) × (is (PrefixLength axis) ≡ false))
    → first_in is layout values rest ≡ rest
passes is [] values rest n = refl
passes is (part ∷ parts) [] rest n = refl
passes is (part ∷ parts) (v ∷ vs) rest n =
    by (is_whole part) (is (OnAxis part.axis)) (is (Prefix part.axis)) (is (PrefixLength part.axis)) (n part.axis).0
    (n part.axis).1 (n part.axis).2 ∙ passes is parts vs rest n where
      by : (w a b c : Bool) → a ≡ false → b ≡ false → c ≡ false
          → cond w (cond a (Some v) (first_in is parts vs rest))
          (cond b (Some (prefix_of part v)) (cond c (Some part.bits) (first_in is parts vs rest)))
          ≡ first_in is parts vs rest
      by true a b c e f g = ap (λ (t : Bool). cond t (Some v) (first_in is parts vs rest)) e
      by false a b c e f g =
          ap (λ (t : Bool). cond t (Some (prefix_of part v)) (cond c (Some part.bits) (first_in is parts vs rest))) f
          ∙ ap (λ (t : Bool). cond t (Some part.bits) (first_in is parts vs rest)) g

module _ (layout : Layout) (values : List ℕ) (counts : Counts) (s : list_all can_stand layout ≡ true)
    (h : HasBits layout values) (o : counts.octets < 2 ^ 64) (p : counts.packets < 2 ^ 64) where
  pub octets_noted : first_where is_octets (key_values layout values ++ counts_values counts) ≡ Some counts.octets
  octets_noted =
      key_first is_octets layout values (counts_values counts) s h
      ∙ passes is_octets layout values (first_where is_octets (counts_values counts)) (λ axis. (refl, refl, refl))
      ∙ counts_first is_octets counts o p

  pub packets_noted : first_where is_packets (key_values layout values ++ counts_values counts) ≡ Some counts.packets
  packets_noted =
      key_first is_packets layout values (counts_values counts) s h
      ∙ passes is_packets layout values (first_where is_packets (counts_values counts)) (λ axis. (refl, refl, refl))
      ∙ counts_first is_packets counts o p

-- ---- on an axis

abbrev pub whole_in : Held → Option ℕ
whole_in None = None
whole_in (Some q) = cond (is_whole q.0) (Some q.1) None

abbrev pub prefix_in : Held → Option ℕ
prefix_in None = None
prefix_in (Some q) = cond (is_whole q.0) None (Some (prefix_of q.0 q.1))

abbrev pub length_in : Held → Option ℕ
length_in None = None
length_in (Some q) = cond (is_whole q.0) None (Some q.0.bits)

-- the rest of the axes after its own have none of it
behind_none : (part : Part) (parts : Layout) (vs : List ℕ) (axis : Axis) → AxesAscend (suc (axis_index part.axis)) parts
    → same_axis part.axis axis ≡ true → held parts vs axis ≡ None
behind_none part parts vs axis a e = none_before (suc (axis_index part.axis)) parts vs axis a
    (let is : axis_index part.axis ≡ axis_index axis = eqb-true _ _ e in omega arith)

record OnAxisRead (axis : Axis) (layout : Layout) (values : List ℕ) : Type 0 where
  whole : first_in (is_value axis) layout values None ≡ whole_in (held layout values axis)
  prefix : first_in (is_prefix axis) layout values None ≡ prefix_in (held layout values axis)
  bits : first_in (is_prefix_length axis) layout values None ≡ length_in (held layout values axis)

axis_read : (axis : Axis) (k : ℕ) (layout : Layout) (values : List ℕ) → AxesAscend k layout → HasBits layout values
    → OnAxisRead axis layout values
axis_read axis k [] values a h = record { whole = refl; prefix = refl; bits = refl }
axis_read axis k (part ∷ parts) [] a h = absurd h
axis_read axis k (part ∷ parts) (v ∷ vs) a h =
    let rest : OnAxisRead axis parts vs = axis_read axis (suc (axis_index part.axis)) parts vs a.1 h.1 in
    let none : same_axis part.axis axis ≡ true → held parts vs axis ≡ None = behind_none part parts vs axis a.1 in
    let t : Bool = same_axis part.axis axis in
    record {
      whole = whole t (is_whole part) none _ rest.whole ∙ sym (lift whole_in refl t);
      prefix = prefix t (is_whole part) none _ rest.prefix ∙ sym (lift prefix_in refl t);
      bits = bits t (is_whole part) none _ rest.bits ∙ sym (lift length_in refl t);
    } where
      lift : (f : Held → Option ℕ) → f None ≡ None → (t : Bool) → f (cond t (Some (part, v)) (held parts vs axis))
          ≡ cond t (f (Some (part, v))) (f (held parts vs axis))
      lift f n true = refl
      lift f n false = refl

      whole : (t w : Bool) → (t ≡ true → held parts vs axis ≡ None) → (r : Option ℕ) → r ≡ whole_in (held parts vs axis)
          → cond w (cond t (Some v) r) r ≡ cond t (cond w (Some v) None) (whole_in (held parts vs axis))
      whole true true n r e = refl
      whole true false n r e = e ∙ ap whole_in (n refl)
      whole false true n r e = e
      whole false false n r e = e

      prefix : (t w : Bool) → (t ≡ true → held parts vs axis ≡ None) → (r : Option ℕ) → r
          ≡ prefix_in (held parts vs axis) → cond w r (cond t (Some (prefix_of part v)) r)
          ≡ cond t (cond w None (Some (prefix_of part v))) (prefix_in (held parts vs axis))
      prefix true true n r e = e ∙ ap prefix_in (n refl)
      prefix true false n r e = refl
      prefix false true n r e = e
      prefix false false n r e = e

      bits : (t w : Bool) → (t ≡ true → held parts vs axis ≡ None) → (r : Option ℕ) → r ≡ length_in (held parts vs axis)
          → cond w r (cond t (Some part.bits) r) ≡ cond t (cond w None (Some part.bits))
          (length_in (held parts vs axis))
      bits true true n r e = e ∙ ap length_in (n refl)
      bits true false n r e = refl
      bits false true n r e = e
      bits false false n r e = e

-- what is noted on an axis
pub record NotedOn (axis : Axis) (layout : Layout) (values : List ℕ) (all : List Value) : Type 0 where
  pub whole : first_where (is_value axis) all ≡ whole_in (held layout values axis)
  pub prefix : first_where (is_prefix axis) all ≡ prefix_in (held layout values axis)
  pub bits : first_where (is_prefix_length axis) all ≡ length_in (held layout values axis)

pub axis_noted : (axis : Axis) (layout : Layout) (values : List ℕ) (counts : Counts) → list_all can_stand layout ≡ true
    → AxesAscend 0 layout → HasBits layout values → counts.octets < 2 ^ 64 → counts.packets < 2 ^ 64
    → NotedOn axis layout values (key_values layout values ++ counts_values counts)
axis_noted axis layout values counts s a h o p =
    let read : OnAxisRead axis layout values = axis_read axis 0 layout values a h in
    record {
      whole = key_first (is_value axis) layout values (counts_values counts) s h
          ∙ ap (first_in (is_value axis) layout values) (counts_first (is_value axis) counts o p) ∙ read.whole;
      prefix = key_first (is_prefix axis) layout values (counts_values counts) s h
          ∙ ap (first_in (is_prefix axis) layout values) (counts_first (is_prefix axis) counts o p) ∙ read.prefix;
      bits = key_first (is_prefix_length axis) layout values (counts_values counts) s h
          ∙ ap (first_in (is_prefix_length axis) layout values) (counts_first (is_prefix_length axis) counts o p)
          ∙ read.bits;
    }
