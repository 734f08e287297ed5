-- Records that holders take in can be sent.
use Rattle.std.proofs.Common.{◌≡◌, ℕ, zero, suc, Bool, true, false, cond, List, [], ◌∷◌, ◌++◌, Option, Some, None, IfSome, option_and_then, refl, sym, subst, arith, slice_get, slice_set, remove}
use Rattle.std.specs.List.{AllByRecursion}
use Rattle.fx_base.specs.declared.counts.Counts.{Counts}
use Rattle.fx_base.specs.Counts.{add_counts}
use Rattle.fx_elements.specs.Axes.{Fields}
use Rattle.fx_boxes.specs.Boxes.{IsFields}
use Rattle.fx_layout.specs.Keys.{Key, project, same_key}
use Rattle.fx_layout.proofs.Layouts.{key_has_bits, cut_has_bits}
use Rattle.fx_tables.specs.declared.holding.Holding.{Holding}
use Rattle.fx_tables.specs.declared.observation.Occurrence.{Occurrence}
use Rattle.fx_tables.specs.declared.record.Record.{Record}
use Rattle.fx_tables.specs.Network.{Holder, AggregationEntry, layout_of, takes_with}
use Rattle.fx_base.specs.Entries.{entry_numbered}
use Rattle.fx_machine.specs.States.{without, with_entry}
use Rattle.fx_machine.specs.Acts.{Choices, taken_in, records_joining}
use Rattle.fx_machine.specs.Holds.{hold_all, held_with, take_in_at, put_in}
use Rattle.fx_tables.specs.Holdings.{met_holdings}
use Rattle.fx_tables.specs.Takers.{intakes}
use Rattle.fx_link.specs.Sending.{IsSent}
use Rattle.fx_conform.specs.Held.{Leaver, Leave}
use Rattle.fx_conform.specs.Sendable.{IsKey, AreCounts, HaveLayouts, AreSent, HaveRightKeys}
use Rattle.fx_conform.proofs.LinkPlaces.{all_both}

-- ---- keys

pub met_can_be_sent : (holders : List Holder) (fields : Fields) (os : List Occurrence) → HaveLayouts holders
    → IsFields fields → HaveRightKeys (met_holdings holders fields os)
met_can_be_sent holders fields [] have is = tt
met_can_be_sent holders fields (o ∷ os) have is = (
  record {
    layout = have o.holder;
    bits =
        key_has_bits (layout_of (slice_get holders o.holder)) fields (have o.holder).stands is;
  },
  met_can_be_sent holders fields os have is,
)

projected : (holders : List Holder) (key : Key) (holder : ℕ) → HaveLayouts holders → IsKey key
    → IsKey (project key (layout_of (slice_get holders holder)))
projected holders key holder have is = record {
  layout = have holder;
  bits = cut_has_bits key.layout key.values (layout_of (slice_get holders holder)) is.bits (have holder).stands;
}

pub aggregated_can_be_sent : (holders : List Holder) (key : Key) (aggregations : List AggregationEntry)
    → HaveLayouts holders → IsKey key → HaveRightKeys (intakes holders key aggregations)
aggregated_can_be_sent holders key [] have is = tt
aggregated_can_be_sent holders key (a ∷ rest) have is =
    by (aggregated_can_be_sent holders key rest have is) (takes_with holders key a) where
      by : HaveRightKeys (intakes holders key rest) → (b : Bool)
          → HaveRightKeys (cond b (record {
            holder = a.holder;
            key =
                project key (layout_of (slice_get holders a.holder));
          }
          ∷ []) [] ++ intakes holders key rest)
      by ih true = (projected holders key a.holder have is, ih)
      by ih false = ih

-- ---- lists all of whose entries are so

all_at : {A : Type 0} (P : A → Type 0) (xs : List A) (n : ℕ) (x : A) → AllByRecursion P xs → slice_get xs n ≡ Some x
    → P x
all_at P [] n x h e = absurd (cc)
all_at P (y ∷ ys) zero x h e = subst P (let same : y ≡ x = cc in same) h.0
all_at P (y ∷ ys) (suc n) x h e = all_at P ys n x h.1 e

all_set : {A : Type 0} (P : A → Type 0) (xs : List A) (n : ℕ) (y : A) → AllByRecursion P xs → P y
    → AllByRecursion P (slice_set xs n y)
all_set P [] n y h k = tt
all_set P (x ∷ xs) zero y h k = (k, h.1)
all_set P (x ∷ xs) (suc n) y h k = (h.0, all_set P xs n y h.1 k)

all_removed : {A : Type 0} (P : A → Type 0) (xs : List A) (n : ℕ) → AllByRecursion P xs → AllByRecursion P (remove xs n)
all_removed P [] zero h = tt
all_removed P [] (suc n) h = tt
all_removed P (x ∷ xs) zero h = h.1
all_removed P (x ∷ xs) (suc n) h = (h.0, all_removed P xs n h.1)

all_without : {A : Type 0} (P : A → Type 0) (xs : List A) (number : ℕ) → AllByRecursion P xs
    → AllByRecursion P (without xs number)
all_without P xs zero h = h
all_without P xs (suc n) h = all_removed P xs n h

all_replaced : {A : Type 0} (P : A → Type 0) (xs : List A) (number : ℕ) (y : A) → AllByRecursion P xs → P y
    → AllByRecursion P (with_entry xs number y)
all_replaced P xs zero y h k = h
all_replaced P xs (suc n) y h k = all_set P xs n y h k

numbered_at : {A : Type 0} (P : A → Type 0) (xs : List A) (number : ℕ) (x : A) → AllByRecursion P xs
    → entry_numbered xs number ≡ Some x → P x
numbered_at P xs zero x h e = absurd (cc)
numbered_at P xs (suc n) x h e = all_at P xs n x h e

-- ---- what leaves

pub leavings_can_be_sent : (l : Leaver) (held now : List (List Record)) → Leave l held now → AreSent held
    → IsSent l.flow × AreSent now
leavings_can_be_sent l held now leave sent =
    let all : AllByRecursion IsSent leave.rs =
    all_at (AllByRecursion IsSent) held l.holder leave.rs sent leave.there in (
      numbered_at IsSent leave.rs leave.number l.flow all leave.flow_is,
      subst AreSent (sym leave.now_is) (all_set (AllByRecursion IsSent) held l.holder (without leave.rs leave.number)
          sent (all_without IsSent leave.rs leave.number all)),
    )

-- ---- what is taken in

right_is_sent : (key : Key) (counts : Counts) → IsKey key → AreCounts counts
    → IsSent (record { key = key; counts = counts })
right_is_sent key counts k c = (
  k.layout,
  record { layout_is = refl; bits = k.bits; packets = c.packets; octets = c.octets },
)

-- a record with counts added
more_is_sent : (old : Record) (counts : Counts) → IsSent old
    → IsSent (record { key = old.key; counts = add_counts old.counts counts })
more_is_sent old counts s = (
  s.0,
  record {
    layout_is = refl;
    bits = s.1.bits;
    packets = omega arith;
    octets =
        omega arith;
  },
)

joined_is_sent : (o : Option Record) (rs : List Record) (number : ℕ) (r : Record)
    → ((old : Record) → o ≡ Some old → IsSent old) → AllByRecursion IsSent rs
    → IfSome (records_joining o rs number r) (AllByRecursion IsSent)
joined_is_sent None rs number r f h = tt
joined_is_sent (Some old) rs number r f h = by (same_key old.key r.key) where
  new : Record
  new = record { key = old.key; counts = add_counts old.counts r.counts }

  by : (t : Bool) → IfSome (cond t (Some (with_entry rs number new)) None) (AllByRecursion IsSent)
  by true = all_replaced IsSent rs number new h (more_is_sent old r.counts (f old refl))
  by false = tt

taken_is_sent : (rs : List Record) (choice : Option ℕ) (r : Record) → AllByRecursion IsSent rs → IsSent r
    → IfSome (taken_in rs choice r) (AllByRecursion IsSent)
taken_is_sent rs None r h s = all_both IsSent rs (r ∷ []) h (s, tt)
taken_is_sent rs (Some number) r h s = joined_is_sent (entry_numbered rs number) rs number r
    (λ old e. numbered_at IsSent rs number old h e) h

put_is_sent : (held : List (List Record)) (holder : ℕ) (o : Option (List Record)) → AreSent held
    → IfSome o (AllByRecursion IsSent) → IfSome (put_in held holder o) AreSent
put_is_sent held holder None h s = tt
put_is_sent held holder (Some rs) h s = all_set (AllByRecursion IsSent) held holder rs h s

take_is_sent : (o : Option (List Record)) (held : List (List Record)) (holder : ℕ) (r : Record) (choice : Option ℕ)
    → ((rs : List Record) → o ≡ Some rs → AllByRecursion IsSent rs) → AreSent held → IsSent r
    → IfSome (take_in_at o held holder r choice) AreSent
take_is_sent None held holder r choice f h s = tt
take_is_sent (Some rs) held holder r choice f h s =
    put_is_sent held holder (taken_in rs choice r) h (taken_is_sent rs choice r (f rs refl) s)

one_is_sent : (held : List (List Record)) (counts : Counts) (h : Holding) (choice : Option ℕ) → AreCounts counts
    → IsKey h.key → AreSent held → IfSome (held_with held counts h choice) AreSent
one_is_sent held counts h choice c k s =
    take_is_sent (slice_get held h.holder) held h.holder (record { key = h.key; counts = counts }) choice
    (λ rs e. all_at (AllByRecursion IsSent) held h.holder rs s e) s (right_is_sent h.key counts k c)

all_are_sent : (counts : Counts) (hs : List Holding) (held : List (List Record)) (choices : Choices) → AreCounts counts
    → HaveRightKeys hs → AreSent held → IfSome (hold_all counts hs held choices) AreSent
all_are_sent counts [] held [] c k s = s
all_are_sent counts [] held (x ∷ xs) c k s = tt
all_are_sent counts (h ∷ hs) held [] c k s = tt
all_are_sent counts (h ∷ hs) held (x ∷ xs) c k s =
    by (λ now sent. all_are_sent counts hs now xs c k.1 sent) (held_with held counts h x)
    (one_is_sent held counts h x c k.0 s) where
      by : ((now : List (List Record)) → AreSent now → IfSome (hold_all counts hs now xs) AreSent)
          → (o : Option (List (List Record))) → IfSome o AreSent
          → IfSome (option_and_then (λ (now : List (List Record)). hold_all counts hs now xs) o) AreSent
      by ih None sent = tt
      by ih (Some now) sent = ih now sent

pub taken_can_be_sent : (counts : Counts) (hs : List Holding) (held : List (List Record)) (choices : Choices)
    (now : List (List Record)) → AreCounts counts → HaveRightKeys hs → AreSent held → hold_all counts hs held choices
    ≡ Some now → AreSent now
taken_can_be_sent counts hs held choices now c k s e =
    subst (λ (o : Option (List (List Record))). IfSome o AreSent) e (all_are_sent counts hs held choices c k s)
