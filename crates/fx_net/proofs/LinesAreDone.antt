-- What a line asks for is done.
use Rattle.std.proofs.Common.{◌≡◌, ◌≢◌, ◌⊎◌, inl, inr, ℕ, ◌+◌, ◌<◌, ◌≤◌, ◌^◌, Bool, true, false, ◌&&◌, List, length, Option, Some, None, option_map, slice_get, Result, Ok, Err, refl, sym, ap, ◌∙◌, subst, add-one, arith}
use Rattle.std.specs.Prelude.{IfErr, OnOk, is_some}
use Rattle.std.proofs.lemmas.Option.{slice_get_cases}
use Rattle.fx_link.specs.Links.{Put}
use Rattle.fx_link.specs.Ongoing.{Ongoing}
use Rattle.fx_boxes.specs.Boxes.{holds}
use Rattle.fx_elements.specs.Axes.{Fields}
use Rattle.fx_tables.specs.Classes.{Class}
use Rattle.fx_tables.specs.Network.{Net}
use Rattle.fx_base.specs.Entries.{entry_numbered}
use Rattle.fx_tables.specs.declared.holder_name.HolderName.TheVariants as holder
use Rattle.fx_pcap.specs.Captures as captures
use Rattle.fx_plan.specs.Tables.{net_of}
use Rattle.fx_net.specs.declared.action.Action.{Action}
use Rattle.fx_net.specs.declared.action.Action.TheVariants as action
use Rattle.fx_net.specs.declared.stop.Stop.{Stop}
use Rattle.fx_net.specs.declared.stop.Stop.TheVariants as stop
use Rattle.fx_base.specs.Refusals.{nothing_there, want_of_memory}
use Rattle.fx_net.specs.Arriving.{after_carrying, queued_at, queued_on}
use Rattle.fx_net.specs.Finishing.{PutsAll, after_finishing}
use Rattle.fx_net.specs.Leaving.{least_at}
use Rattle.fx_net.specs.Schedule.{AsksFor}
use Rattle.fx_net.specs.Contents.{Contents}
use Rattle.fx_net.specs.Doings.{ReadsFrame, IsFrame, LeastLeaves, CarriesOn, Uses, after_packet}
use Rattle.fx_net.proofs.Frames.{of_seen}
use Rattle.fx_net.specs.Running.{RunningNetwork, Acts, FailsOutside, HasTooFew, NamesNothing, Obeys, ReadsOne, RefusesAction, RefusesLine, fault_of, is_in, nothing_named, is_in_class, packet_of}

-- what two clauses say of a value that is there
pub both_ok : {T E P Q R : Type 0} (r : Result T E) → OnOk r P → OnOk r Q → (P → Q → R) → OnOk r R
both_ok (Ok x) p q f = f p q
both_ok (Err e) p q f = tt

Keeps : RunningNetwork → RunningNetwork → Type 0
Keeps old new = new ≡ record old { contents = new.contents }

pub acts_next : (old new : RunningNetwork) (at to : captures.CaptureState)
    → captures.AtFrame at to × ReadsFrame (net_of old.network) old.classes action.Next to.seen old.contents new.contents
    → new ≡ record old { contents = new.contents } → Acts action.Next old new at to
acts_next old new at to h rest = record { frame = Some to.seen; goes = (h.0, refl); does = h.1; rest = rest }

pub acts_of : (class path : ℕ) (old new : RunningNetwork) (at to : captures.CaptureState)
    → captures.AtFrame at to × ReadsFrame (net_of old.network) old.classes (action.NextOf class path) to.seen
    old.contents new.contents → new ≡ record old { contents = new.contents }
    → Acts (action.NextOf class path) old new at to
acts_of class path old new at to h rest = record { frame = Some to.seen; goes = (h.0, refl); does = h.1; rest = rest }

pub acts_expire : (device cache : ℕ) (old new : RunningNetwork) (at : captures.CaptureState)
    → LeastLeaves (net_of old.network) (holder.Cache device cache) old.contents new.contents → new
    ≡ record old { contents = new.contents } → Acts (action.Expire device cache) old new at at
acts_expire device cache old new at h rest = record { frame = None; goes = refl; does = h; rest = rest }

pub acts_emit : (device process aggregation : ℕ) (old new : RunningNetwork) (at : captures.CaptureState)
    → LeastLeaves (net_of old.network) (holder.Aggregation device process aggregation) old.contents new.contents → new
    ≡ record old { contents = new.contents } → Acts (action.Emit device process aggregation) old new at at
acts_emit device process aggregation old new at h rest = record { frame = None; goes = refl; does = h; rest = rest }

pub acts_use : (device exporter destination : ℕ) (old new : RunningNetwork) (at : captures.CaptureState)
    → Uses old.network device exporter destination old.contents new.contents → new
    ≡ record old { contents = new.contents } → Acts (action.Use device exporter destination) old new at at
acts_use device exporter destination old new at h rest = record { frame = None; goes = refl; does = h; rest = rest }

pub acts_carry : (link octets : ℕ) (old new : RunningNetwork) (at : captures.CaptureState)
    → CarriesOn (net_of old.network) link octets old.contents new.contents → new
    ≡ record old { contents = new.contents } → Acts (action.Carry link octets) old new at at
acts_carry link octets old new at h rest = record { frame = None; goes = refl; does = h; rest = rest }

-- a line that names nothing is refused for it
pub names_nothing : {X Says : Type 0} (r : Result X Stop) (old : RunningNetwork) (at to : captures.CaptureState)
    (line : ℕ) (asked named : Action) → asked ≡ named
    → (Says → NamesNothing old at to named)
    → IfErr r (λ s. (s ≡ stop.Bare want_of_memory) ⊎ ((s ≡ stop.Line nothing_there line) × Says))
    → IfErr r (λ s. (s ≡ stop.Bare want_of_memory) ⊎ RefusesAction old at to line asked (fault_of s))
names_nothing (Ok x) old at to line asked named is says h = tt
names_nothing (Err s) old at to line asked named is says (inl memory) = inl memory
names_nothing (Err s) old at to line asked named is says (inr h) =
    inr (nothing_named (ap fault_of h.0) (subst (NamesNothing old at to) (sym is) (says h.1)))

-- ---- a packet of the class and the path that a line names

both_true : (a b : Bool) → (a && b) ≡ true → (a ≡ true) × (b ≡ true)
both_true true true e = (refl, refl)
both_true true false e = absurd cc
both_true false b e = absurd cc

not_none : {A : Type 0} (o : Option A) → is_some o ≡ true → o ≢ None
not_none (Some x) e f = absurd cc
not_none None e f = absurd cc

abbrev IsThere : List Class → ℕ → Fields → ℕ → Type 0
IsThere classes class fields path =
    (c : Class) × (entry_numbered classes class ≡ Some c) × (holds c.region fields ≡ true)
    × (entry_numbered c.paths path ≢ None)

is_there : (classes : List Class) (class : ℕ) (fields : Fields) (path : ℕ) → is_in classes fields class path ≡ true
    → IsThere classes class fields path
is_there classes class fields path e = by (entry_numbered classes class) refl e where
  by : (o : Option Class) → entry_numbered classes class ≡ o → is_in_class o fields path ≡ true
      → IsThere classes class fields path
  by None is f = absurd cc
  by (Some c) is f =
      let b = both_true (holds c.region fields) (is_some (entry_numbered c.paths path)) f in
      (c, is, b.0, not_none (entry_numbered c.paths path) b.1)

pub reads_given : (net : Net) (classes : List Class) (frame seen : captures.Seen) (class path : ℕ) (old done : Contents)
    → frame.fields ≡ seen.fields → frame.octets ≡ seen.octets → frame.second ≡ seen.second
    → IsFrame (packet_of frame class path) frame → frame.second < 2 ^ 32
    → is_in classes frame.fields class path ≡ true
    → done ≡ after_packet net classes (packet_of frame class path) frame.second old
    → ReadsFrame net classes (action.NextOf class path) seen old done
reads_given net classes frame seen class path old done fields octets second of_frame soon is made =
    let t = is_there classes class frame.fields path is in
    record {
      packet = packet_of frame class path;
      is_frame = of_seen (packet_of frame class path) frame seen fields octets of_frame;
      soon = subst (λ (n : ℕ). n < 2 ^ 32) second soon;
      given = (t.0, t.1, t.2, refl, refl, t.3);
      done_is = made ∙ ap (λ (s : ℕ). after_packet net classes (packet_of frame class path) s old) second;
    }

none_if : {A : Type 0} (t : Bool) (o : Option A) → (t && is_some o) ≡ false → t ≡ true → o ≡ None
none_if true None e h = refl
none_if true (Some x) e h = absurd cc
none_if false o e h = absurd cc

-- where there is no such class and path, the class has no such path or doesn't hold the fields
pub not_there : (classes : List Class) (class : ℕ) (fields : Fields) (path : ℕ) → is_in classes fields class path
    ≡ false
    → (c : Class) → entry_numbered classes class ≡ Some c → holds c.region fields ≡ true → entry_numbered c.paths path
    ≡ None
not_there classes class fields path e c is held =
    none_if (holds c.region fields) (entry_numbered c.paths path)
    (sym (ap (λ (o : Option Class). is_in_class o fields path) is) ∙ e) held

-- ---- octets that are carried

queued_there : (links : List Ongoing) (place queued : ℕ) → queued_at links place ≡ Some queued → (place < length links)
    × (queued_on (slice_get links place) ≡ queued)
queued_there links place queued e =
    elim (slice_get_cases links place).1 [
      | inl w ↦
          let all : Some (length w.0.queue) ≡ Some queued = sym (ap (option_map (λ (o : Ongoing). length o.queue)) w.2)
          ∙ e in
          let one : length w.0.queue ≡ queued = cc in
          (w.1, ap queued_on w.2 ∙ one)
      | inr w ↦
          let none : None ≡ Some queued = sym (ap (option_map (λ (o : Ongoing). length o.queue)) w.1) ∙ e in
          absurd (cc)
    ]

pub carries_on : (net : Net) (link place octets queued : ℕ) (old done : Contents) → place + 1 ≡ link
    → queued_at old.links place ≡ Some queued → octets ≤ queued → done ≡ after_carrying net place octets old
    → CarriesOn net link octets old done
carries_on net link place octets queued old done e is enough made =
    let t = queued_there old.links place queued is in
    subst (λ (n : ℕ). CarriesOn net n octets old done) (sym (add-one place) ∙ e)
    (record { there = t.0; enough = omega (arith, t.1); done_is = made })

pub too_few : (c : Contents) (link place octets : ℕ) → place + 1 ≡ link
    → ((queued : ℕ) → queued_at c.links place ≡ Some queued → queued < octets) → HasTooFew c link octets
too_few c link place octets e few =
    subst (λ (n : ℕ). HasTooFew c n octets) (sym (add-one place) ∙ e) (λ lt.
    elim (slice_get_cases c.links place).1 [
      | inl w ↦ subst (λ (o : Option Ongoing). queued_on o < octets) (sym w.2)
          (few (length w.0.queue) (ap (option_map (λ (o : Ongoing). length o.queue)) w.2))
      | inr w ↦ absurd (omega (arith, lt, w.0))
    ])

-- ---- a record that leaves

pub nothing_held : (c : Contents) (found : Option ℕ) (p q : ℕ) → found ≡ Some p → found ≡ Some q
    → is_some (least_at c p) ≡ false → least_at c q ≡ None
nothing_held c found p q is there e =
    let all : Some p ≡ Some q = sym is ∙ there in
    let same : p ≡ q = cc in
    by (least_at c q) (subst (λ (n : ℕ). is_some (least_at c n) ≡ false) same e)
  where
    by : {A : Type 0} (o : Option A) → is_some o ≡ false → o ≡ None
    by None e = refl
    by (Some x) e = absurd cc

-- ---- what waits on links is put out behind it

pub obeys_by : (line : List ℕ) (asked : Action) (old mid : RunningNetwork) (at to : captures.CaptureState)
    (before after : Put) (contents : Contents)
    → AsksFor line asked → Acts asked old mid at to → PutsAll before after mid.contents.second mid.contents.links
    → contents ≡ after_finishing mid.contents
    → Obeys line old (record mid { contents = contents }) at to before after
obeys_by line asked old mid at to before after contents asks acts put is = record {
  asked = asked;
  asks = asks;
  frame = acts.frame;
  goes = acts.goes;
  does = record { done = mid.contents; made = acts.does; put = put; new_is = is };
  rest = ap (λ (r : RunningNetwork). record r { contents = contents }) acts.rest;
}

pub reads_one_by : (old mid : RunningNetwork) (frame : captures.Seen) (before after : Put) (contents : Contents)
    → ReadsFrame (net_of old.network) old.classes action.Next frame old.contents mid.contents → mid
    ≡ record old { contents = mid.contents }
    → PutsAll before after mid.contents.second mid.contents.links → contents ≡ after_finishing mid.contents
    → ReadsOne old (record mid { contents = contents }) frame before after
reads_one_by old mid frame before after contents reads rest put is = record {
  done = record { done = mid.contents; made = reads; put = put; new_is = is };
  rest = ap (λ (r : RunningNetwork). record r { contents = contents }) rest;
}

pub act_refused : (line : List ℕ) (asked : Action) (number : ℕ) (old : RunningNetwork) (at to : captures.CaptureState)
    (failed : Bool) (s : Stop)
    → AsksFor line asked → (s ≡ stop.Bare want_of_memory) ⊎ RefusesAction old at to number asked (fault_of s)
    → FailsOutside failed (fault_of s) ⊎ RefusesLine line number old at to (fault_of s)
act_refused line asked number old at to failed s asks (inl memory) = inl (inl (ap fault_of memory))
act_refused line asked number old at to failed s asks (inr refused) = inr (inr (asked, asks, refused))
