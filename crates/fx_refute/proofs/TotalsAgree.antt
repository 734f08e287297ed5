-- When the totals of one packet's run are its plain sums.
use Rattle.std.proofs.Common.{◌≡◌, ◌%◌, ◌^◌, ◌<◌, ◌⊎◌, inl, inr, Bool, true, false, cond, List, [], ◌∷◌, length, Some, None, Ok, refl, sym, ap, ap₂, ◌∙◌, subst, arith, mod-eq_of_lt}
use Rattle.std.proofs.lemmas.Bool.{false≢true}
use Rattle.std.proofs.lemmas.List.{length-map}
use Rattle.fx_base.specs.declared.counts.Counts.{Counts}
use Rattle.fx_base.specs.declared.fault.Fault.{Fault}
use Rattle.fx_elements.specs.Axes.{field, axis_width}
use Rattle.fx_layout.specs.Keys.{Key, Layout, IsLayout, key_of, leading_bits, project, same_key}
use Rattle.fx_layout.proofs.Projections.{key_same, same_key_is}
use Rattle.fx_tables.specs.declared.packet.Packet.{Packet}
use Rattle.fx_tables.specs.declared.record.Record.{Record}
use Rattle.fx_tables.specs.Network.{Net}
use Rattle.fx_base.specs.Entries.{entry_numbered}
use Rattle.fx_tables.specs.Classes.{Class, IsOf, exempts, to_count}
use Rattle.fx_machine.specs.Claim.{CountsEachOnce}
use Rattle.fx_machine.specs.States.{State, opening, wrapped_state}
use Rattle.fx_machine.specs.Steps.{run, one_packet}
use Rattle.fx_machine.specs.Stores.{LoadedNetwork}
use Rattle.fx_machine.specs.Sums.{plain_sum, total_at}
use Rattle.fx_collect.specs.Totals.{IsTable, IsUnder, Totals, nothing, totals_in}
use Rattle.fx_collect.proofs.OwnKeys.{project_own, refines_own}
use Rattle.fx_refute.specs.Confirming.{plain_totals, own_record, TotalsAgreeAt, IsStopped}
use Rattle.fx_refute.specs.Refutations.{Refutation, ReachesState, IsPlainSumTable, IsNoRefutation}
use Rattle.fx_refute.specs.Refutations.IsNoRefutation.{not_enabled}

-- a list of this packet, or of none
abbrev pub IsOneOrNone : Packet → List Packet → Type 0
IsOneOrNone p ps = (ps ≡ p ∷ []) ⊎ (ps ≡ [])

-- what is to be counted of one packet
pub one_or_none : (classes : List Class) (p : Packet) → IsOneOrNone p (to_count classes (p ∷ []))
one_or_none classes p = by_exempt (exempts (entry_numbered classes p.class)) refl where
  by_exempt : (b : Bool) → exempts (entry_numbered classes p.class) ≡ b → IsOneOrNone p (to_count classes (p ∷ []))
  by_exempt true is = inr (rw is refl)
  by_exempt false is = inl (rw is refl)

-- ---- the packet's sums

module _ (layout : Layout) (p : Packet) where
  abbrev own : Key
  own = key_of layout p.fields

  -- what is counted of it
  abbrev one_total : Totals
  one_total = record { layout = layout; entries = own_record layout p ∷ []; unassigned = 0 }

  own_under : IsUnder layout own
  own_under = (
    refl,
    length-map layout (λ part. leading_bits (axis_width part.axis) part.bits
        (field p.fields part.axis)),
  )

  one_tallied : IsLayout layout → plain_totals layout (p ∷ []) ≡ one_total
  one_tallied is =
      let with_key : Key → Totals = λ k. record {
        layout = layout;
        entries = record { key = k; counts = one_packet p }
            ∷ [];
        unassigned = 0;
      } in
      ap (λ b. cond b (with_key (project own layout)) (record (nothing layout) { unassigned = 1 }))
      (refines_own layout is) ∙ ap with_key (project_own layout own is own_under)

  own_sum : plain_sum layout own (p ∷ []) ≡ Some (one_packet p)
  own_sum = ap (λ b. cond b (Some (one_packet p)) None) (key_same own)

  -- a key at which the plain sums have anything is the packet's
  own_alone : (key : Key) (c : Counts) → plain_sum layout key (p ∷ []) ≡ Some c → own ≡ key
  own_alone key c h =
      elim (same_key own key) as (λ b. same_key own key ≡ b → cond b (Some (one_packet p)) None ≡ Some c → own ≡ key) [
        | true ↦ λ e k. same_key_is own key e
        | false ↦ λ e k. absurd (cc)
      ] refl h

  one_sums : IsPlainSumTable layout (p ∷ []) one_total
  one_sums = record {
    layout_is = refl;
    table = record { under = (own_under, tt); differ = (tt, tt) };
    sums = λ key. refl;
    assigned = refl;
  }

  no_sums : IsPlainSumTable layout [] (plain_totals layout [])
  no_sums = record {
    layout_is = refl;
    table = record { under = tt; differ = tt };
    sums = λ key. refl;
    assigned = refl;
  }

  pub plain_are_sums : (ps : List Packet) → IsLayout layout → IsOneOrNone p ps
      → IsPlainSumTable layout ps (plain_totals layout ps)
  plain_are_sums ps is (inl one) = rw (one, one_tallied is) one_sums
  plain_are_sums ps is (inr none) = rw none no_sums

  -- the totals are those of one record with the packet's key and counts
  one_entry : (ts : List Record) → length ts ≡ 1 → total_at ts own ≡ Some (one_packet p) → (key : Key) → total_at ts key
      ≡ plain_sum layout key (p ∷ [])
  one_entry [] e h = absurd (let k : length {A = Record} [] ≡ 1 = e in omega arith)
  one_entry (t ∷ []) e h = λ key.
      elim (same_key t.key own) as (λ b. same_key t.key own ≡ b → cond b (Some t.counts) None ≡ Some (one_packet p)
      → cond (same_key t.key key) (Some t.counts) None ≡ cond (same_key own key) (Some (one_packet p)) None) [
        | true ↦ λ d k. let counts : t.counts ≡ one_packet p = cc in
            ap₂ (λ (x : Key) (c : Counts). cond (same_key x key) (Some c) None) (same_key_is t.key own d) counts
        | false ↦ λ d k. absurd (cc)
      ] refl h
  one_entry (t ∷ u ∷ ts) e h = absurd (omega arith)

  -- what has these plain sums has one entry
  entries_alone : (ts : List Record) → IsTable layout ts
      → ((key : Key) → total_at ts key ≡ plain_sum layout key (p ∷ [])) → length ts ≡ 1
  entries_alone [] table h = absurd (let bad : None ≡ Some (one_packet p) = h own ∙ own_sum in cc)
  entries_alone (t ∷ []) table h = refl
  entries_alone (t ∷ u ∷ ts) table h =
      let differ : same_key t.key u.key ≡ false = table.differ.0.0 in
      let first : total_at (t ∷ u ∷ ts) t.key ≡ Some t.counts =
      ap (λ b. cond b (Some t.counts) (total_at (u ∷ ts) t.key)) (key_same t.key) in
      let second : total_at (t ∷ u ∷ ts) u.key ≡ Some u.counts =
      ap (λ b. cond b (Some t.counts) (total_at (u ∷ ts) u.key)) differ
      ∙ ap (λ b. cond b (Some u.counts) (total_at ts u.key)) (key_same u.key) in
      let one = own_alone t.key t.counts (sym (h t.key) ∙ first) in
      let two = own_alone u.key u.counts (sym (h u.key) ∙ second) in
      absurd (false≢true (sym differ ∙ subst (λ k. same_key t.key k ≡ true) (sym one ∙ two) (key_same t.key)))

-- what has no sums has no entry
no_entry : (ts : List Record) → ((key : Key) → total_at ts key ≡ None) → length ts ≡ 0
no_entry [] h = refl
no_entry (t ∷ ts) h =
    absurd (let bad : Some t.counts ≡ None = sym (ap (λ b. cond b (Some t.counts) (total_at ts t.key)) (key_same t.key))
    ∙ h t.key in cc)

no_total : (ts : List Record) → length ts ≡ 0 → (key : Key) → total_at ts key ≡ None
no_total [] e key = refl
no_total (t ∷ ts) e key = absurd (omega arith)

-- ---- the answer

module _ (net : Net) (p : Packet) (last : State) (is : IsLayout net.report_layout) where
  abbrev reported_of : Totals
  reported_of = totals_in net.report_layout (wrapped_state last)

  abbrev own_key : Key
  own_key = key_of net.report_layout p.fields

  pub agrees_counted : (ps : List Packet) → IsOneOrNone p ps → last.unassigned < 2 ^ 64
      → TotalsAgreeAt reported_of (plain_totals net.report_layout ps) own_key → CountsEachOnce net ps last
  agrees_counted ps (inl one) few a =
      let b : TotalsAgreeAt reported_of (one_total net.report_layout p) own_key =
      rw (one, one_tallied net.report_layout p is) at a in
      rw one (record {
        totals = one_entry net.report_layout p last.totals b.keys (b.same ∙ own_sum net.report_layout p);
        assigned = sym (mod-eq_of_lt few) ∙ b.assigned;
      })
  agrees_counted ps (inr none) few a =
      let b : TotalsAgreeAt reported_of (plain_totals net.report_layout []) own_key = rw none at a in
      rw none (record {
        totals = no_total last.totals b.keys;
        assigned = sym (mod-eq_of_lt few) ∙ b.assigned;
      })

  counted_agrees_one : IsTable net.report_layout last.totals → CountsEachOnce net (p ∷ []) last
      → TotalsAgreeAt reported_of (plain_totals net.report_layout (p ∷ [])) own_key
  counted_agrees_one table c = rw (one_tallied net.report_layout p is) (record {
    assigned = ap (λ n. n % 2 ^ 64) c.assigned;
    keys = entries_alone net.report_layout p last.totals table c.totals;
    same = c.totals own_key;
  })

  counted_agrees_none : CountsEachOnce net [] last
      → TotalsAgreeAt reported_of (plain_totals net.report_layout []) own_key
  counted_agrees_none c = record {
    assigned = ap (λ n. n % 2 ^ 64) c.assigned;
    keys = no_entry last.totals c.totals;
    same = c.totals own_key;
  }

  pub counted_agrees : (ps : List Packet) → IsOneOrNone p ps → IsTable net.report_layout last.totals
      → CountsEachOnce net ps last → TotalsAgreeAt reported_of (plain_totals net.report_layout ps) own_key
  counted_agrees ps (inl one) table c = rw one (counted_agrees_one table (rw one at c))
  counted_agrees ps (inr none) table c = rw none (counted_agrees_none (rw none at c))

-- ---- a run from its opening

pub ran : (net : Net) (classes : List Class) (r : Refutation) (old new : LoadedNetwork) → old
    ≡ record { net = net; classes = classes; packets = r.packet ∷ []; state = opening net classes (r.packet ∷ []) }
    → IsOf r.packet (entry_numbered classes r.packet.class)
    → ((s : State) → old.state ≡ wrapped_state s → (last : State)
    × (run old.net old.classes old.packets r.steps s ≡ Ok last) × (new.state ≡ wrapped_state last)) → (last : State)
    × ReachesState net classes r last × (new.state ≡ wrapped_state last)
ran net classes r old new is of_class made =
    let begun : LoadedNetwork = record {
      net = net;
      classes = classes;
      packets = r.packet ∷ [];
      state =
          opening net classes (r.packet ∷ []);
    } in
    let m = subst (λ (x : LoadedNetwork). (s : State) → x.state ≡ wrapped_state s → (last : State)
    × (run x.net x.classes x.packets r.steps s ≡ Ok last) × (new.state ≡ wrapped_state last)) is made
    (opening net classes (r.packet ∷ [])) refl in
    (m.0, record { of_class = of_class; runs = m.1 }, m.2)

pub stopped : (net : Net) (classes : List Class) (r : Refutation) (old : LoadedNetwork) (e : Fault) → old
    ≡ record { net = net; classes = classes; packets = r.packet ∷ []; state = opening net classes (r.packet ∷ []) }
    → IsOf r.packet (entry_numbered classes r.packet.class)
    → ((s : State) → old.state ≡ wrapped_state s → IsStopped old.net old.classes old.packets r.steps s e)
    → IsNoRefutation net classes r e
stopped net classes r old e is of_class stop =
    let s = subst (λ (x : LoadedNetwork). (s : State) → x.state ≡ wrapped_state s
    → IsStopped x.net x.classes x.packets r.steps s e) is stop (opening net classes (r.packet ∷ [])) refl in
    subst (IsNoRefutation net classes r) (sym s.fault)
    (not_enabled s.before s.step s.behind s.mid s.number s.all (record { of_class = of_class; runs = s.runs })
    s.refused)
