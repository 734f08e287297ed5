-- Links of which only some are busy: on the others there are no octets, and nothing waits.
use Rattle.std.proofs.Common.{◌≡◌, ◌⊎◌, inl, inr, ℕ, zero, suc, List, [], ◌∷◌, ◌++◌, drop, map, Option, Some, option_map, refl, sym, ap, ◌∙◌, subst, slice_get}
use Rattle.std.specs.List.{AllByRecursion}
use Rattle.std.proofs.Math.Seq.{drop-length}
use Rattle.std.proofs.lemmas.Bool.{cases_eq}
use Rattle.fx_tables.specs.declared.record.Record.{Record}
use Rattle.fx_link.specs.Outgoing.{after_flush}
use Rattle.fx_link.specs.Sending.{Sender}
use Rattle.fx_link.specs.Ongoing.{Ongoing, after_carry, after_finish}
use Rattle.fx_net.specs.Arriving.{queued_on, with_left}
use Rattle.fx_net.specs.Contents.{with_changed}
use Rattle.fx_net.specs.Exporting.{put_each, with_waiting}
use Rattle.fx_conform.specs.Closing.{NothingWaits}
use Rattle.fx_conform.proofs.LinkPlaces.{made_of, map_at, changed_here}
use Rattle.fx_conform.proofs.Places.{changed_other}

-- no octets are on the link, and none are to be put on it
pub record IsIdle (o : Ongoing) : Type 0 where
  pub queue : o.queue ≡ []
  pub batch : o.outgoing.batch ≡ []
  pub octets : o.outgoing.octets ≡ []

-- only the links at these places are busy
abbrev pub OnlyBusy : (ℕ → Type 0) → List Ongoing → Type 0
OnlyBusy busy links = (link : ℕ) (o : Ongoing) → slice_get links link ≡ Some o → busy link ⊎ IsIdle o

pub busy_in_more : (busy more : ℕ → Type 0) (links : List Ongoing) → ((link : ℕ) → busy link → more link)
    → OnlyBusy busy links → OnlyBusy more links
busy_in_more busy more links f h link o at = elim (h link o at) [ inl here ↦ inl (f link here) | inr idle ↦ inr idle ]

-- ---- records are put on links

busy_where_changed : (busy : ℕ → Type 0) (f : Ongoing → Ongoing) (links : List Ongoing) (n : ℕ) → busy n
    → OnlyBusy busy links → OnlyBusy busy (with_changed f links n)
busy_where_changed busy f links n there h link o at = by (cases_eq link n) where
  by : (link ≡ n) ⊎ (link ≡ n → ⊥) → busy link ⊎ IsIdle o
  by (inl e) = inl (subst busy (sym e) there)
  by (inr ne) = h link o (sym (changed_other f links n link ne) ∙ at)

pub busy_where_put : (busy : ℕ → Type 0) (time : ℕ) (r : Record) (places : List ℕ) (links : List Ongoing)
    → AllByRecursion busy places → OnlyBusy busy links → OnlyBusy busy (put_each time r places links)
busy_where_put busy time r [] links there h = h
busy_where_put busy time r (l ∷ ls) links there h =
    busy_where_put busy time r ls (with_changed (with_waiting time r) links l) there.1
    (busy_where_changed busy (with_waiting time r) links l there.0 h)

-- ---- what waits is put out

flushed_none : (time : ℕ) (sender : Sender) (batch : List Record) (octets : List ℕ) → batch ≡ [] → octets ≡ []
    → (after_flush time (record { sender = sender; batch = batch; octets = octets })).octets ≡ []
flushed_none time sender [] octets none no_octets = no_octets
flushed_none time sender (r ∷ rs) octets none no_octets = absurd cc

flushed_all : (time : ℕ) (sender : Sender) (batch : List Record) (octets : List ℕ)
    → (after_flush time (record { sender = sender; batch = batch; octets = octets })).batch ≡ []
flushed_all time sender [] octets = refl
flushed_all time sender (r ∷ rs) octets = refl

nothing_waits : (time : ℕ) (o : Ongoing) → (after_finish time o).outgoing.batch ≡ []
nothing_waits time o = flushed_all time o.outgoing.sender o.outgoing.batch o.outgoing.octets

idle_once_finished : (time : ℕ) (o : Ongoing) → IsIdle o → IsIdle (after_finish time o)
idle_once_finished time o idle = record {
  queue = ap (λ (l : List ℕ). l ++ (after_flush time o.outgoing).octets) idle.queue
      ∙ flushed_none time o.outgoing.sender o.outgoing.batch o.outgoing.octets idle.batch idle.octets;
  batch = nothing_waits time o;
  octets = refl;
}

pub busy_once_finished : (busy : ℕ → Type 0) (time : ℕ) (links : List Ongoing) → OnlyBusy busy links
    → OnlyBusy busy (map (after_finish time) links)
busy_once_finished busy time links h link o at =
    let m = made_of (after_finish time) (slice_get links link) o (sym (map_at (after_finish time) links link) ∙ at) in
    elim (h link m.0 m.1) [ inl here ↦ inl here | inr idle ↦ inr (subst IsIdle m.2 (idle_once_finished time m.0 idle)) ]

pub finished_all : (time : ℕ) (links : List Ongoing) → NothingWaits (map (after_finish time) links)
finished_all time [] = tt
finished_all time (o ∷ links) = ((nothing_waits time o, refl), finished_all time links)

-- ---- a link is carried whole

waits_none : (links : List Ongoing) (link : ℕ) (o : Ongoing) → NothingWaits links → slice_get links link ≡ Some o
    → (o.outgoing.batch ≡ []) × (o.outgoing.octets ≡ [])
waits_none [] link o still at = absurd cc
waits_none (p ∷ links) zero o still at = let e : p ≡ o = cc in
    subst (λ (x : Ongoing). (x.outgoing.batch ≡ []) × (x.outgoing.octets ≡ [])) e still.0
waits_none (p ∷ links) (suc link) o still at = waits_none links link o still.1 at

pub busy_but_carried : (busy : ℕ → Type 0) (links : List Ongoing) (n : ℕ) → NothingWaits links → OnlyBusy busy links
    → OnlyBusy (λ link. busy link × (link ≡ n → ⊥)) (with_changed (after_carry (queued_on (slice_get links n))) links n)
busy_but_carried busy links n still h link o at = by (cases_eq link n) where
  many : ℕ
  many = queued_on (slice_get links n)

  by : (link ≡ n) ⊎ (link ≡ n → ⊥) → (busy link × (link ≡ n → ⊥)) ⊎ IsIdle o
  by (inl e) =
      let here : option_map (after_carry many) (slice_get links n) ≡ Some o =
      sym (changed_here (after_carry many) links n)
      ∙ ap (slice_get (with_changed (after_carry many) links n)) (sym e) ∙ at in
      let m = made_of (after_carry many) (slice_get links n) o here in
      let none = waits_none links n m.0 still m.1 in
      let all : drop many m.0.queue ≡ [] = ap (λ (p : Option Ongoing). drop (queued_on p) m.0.queue) m.1
      ∙ drop-length m.0.queue in
      let idle : IsIdle (after_carry many m.0) = record { queue = all; batch = none.0; octets = none.1 } in
      inr (subst IsIdle m.2 idle)
  by (inr ne) = elim (h link o (sym (changed_other (after_carry many) links n link ne) ∙ at))
      [ inl here ↦ inl (here, ne) | inr idle ↦ inr idle ]

-- records that have arrived leave the link as busy as it is
pub busy_once_left : (busy : ℕ → Type 0) (links : List Ongoing) (n : ℕ) → OnlyBusy busy links
    → OnlyBusy busy (with_changed (with_left []) links n)
busy_once_left busy links n h link o at = by (cases_eq link n) where
  by : (link ≡ n) ⊎ (link ≡ n → ⊥) → busy link ⊎ IsIdle o
  by (inl e) =
      let m = made_of (with_left []) (slice_get links link) o
      (sym (ap (λ (k : ℕ). slice_get (with_changed (with_left []) links k) link) (sym e)
      ∙ changed_here (with_left []) links link) ∙ at) in
      elim (h link m.0 m.1) [
        | inl here ↦ inl here
        | inr idle ↦ (let same : IsIdle (with_left [] m.0) =
            record { queue = idle.queue; batch = idle.batch; octets = idle.octets } in inr (subst IsIdle m.2 same))
      ]
  by (inr ne) = h link o (sym (changed_other (with_left []) links n link ne) ∙ at)
