-- A table of totals that is tallied once more is itself.
use Rattle.std.proofs.Common.{◌≡◌, true, false, cond, List, [], ◌∷◌, ◌++◌, refl, sym, ap, ◌∙◌, subst}
use Rattle.std.specs.List.{AllByRecursion}
use Rattle.std.proofs.lemmas.List.{append_assoc, append-nil}
use Rattle.fx_base.specs.declared.counts.Counts.{Counts}
use Rattle.fx_base.specs.Counts.{add_counts}
use Rattle.fx_layout.specs.Keys.{Layout, Key, IsLayout, refines, project, same_key}
use Rattle.fx_tables.specs.declared.record.Record.{Record}
use Rattle.fx_machine.specs.States.{add_at}
use Rattle.fx_collect.specs.Totals.{Totals, IsUnder, Differ, IsTable, with_record, with_records, nothing}
use Rattle.fx_collect.proofs.OwnKeys.{refines_own, project_own}

-- ---- a record more

-- what all keys keep
all_added : (P : Key → Type 0) (rs : List Record) (key : Key) (counts : Counts) → P key
    → AllByRecursion (λ r. P r.key) rs → AllByRecursion (λ r. P r.key) (add_at rs key counts)
all_added P [] key counts h hs = (h, tt)
all_added P (r ∷ rs) key counts h hs =
    let rest = all_added P rs key counts h hs.1 in
    elim (same_key r.key key) as (λ t. AllByRecursion (λ r. P r.key)
    (cond t (record { key = r.key; counts = add_counts r.counts counts } ∷ rs) (r ∷ add_at rs key counts))) [
      | true ↦ (hs.0, hs.1)
      | false ↦ (hs.0, rest)
    ]

differ_added : (rs : List Record) (key : Key) (counts : Counts) → Differ rs → Differ (add_at rs key counts)
differ_added [] key counts h = (tt, tt)
differ_added (r ∷ rs) key counts h =
    let rest = differ_added rs key counts h.1 in
    elim (same_key r.key key) as (λ t. same_key r.key key ≡ t
    → Differ (cond t (record { key = r.key; counts = add_counts r.counts counts } ∷ rs) (r ∷ add_at rs key counts))) [
      | true ↦ λ e. (h.0, h.1)
      | false ↦ λ e. (all_added (λ k. same_key r.key k ≡ false) rs key counts e h.0, rest)
    ] refl

pub table_added : (layout : Layout) (rs : List Record) (key : Key) (counts : Counts) → IsUnder layout key
    → IsTable layout rs → IsTable layout (add_at rs key counts)
table_added layout rs key counts h t =
    record { under = all_added (IsUnder layout) rs key counts h t.under; differ = differ_added rs key counts t.differ }

-- ---- once more

at_end : (P : Record → Type 0) (done rs : List Record) (r : Record) → AllByRecursion P (done ++ r ∷ rs) → P r
at_end P [] rs r h = h.0
at_end P (d ∷ done) rs r h = at_end P done rs r h.1

-- a record has another key than each before it
others_before : (done rs : List Record) (r : Record) → Differ (done ++ r ∷ rs)
    → AllByRecursion (λ x. same_key x.key r.key ≡ false) done
others_before [] rs r h = tt
others_before (d ∷ done) rs r h = (
  at_end (λ x. same_key d.key x.key ≡ false) done rs r h.0,
  others_before done rs r
      h.1,
)

-- a key that none has stands last
added_last : (done : List Record) (r : Record) → AllByRecursion (λ x. same_key x.key r.key ≡ false) done
    → add_at done r.key r.counts ≡ done ++ r ∷ []
added_last [] r h = refl
added_last (d ∷ done) r h = rw (h.0) (ap (λ xs. d ∷ xs) (added_last done r h.1))

abbrev so_far : Layout → List Record → Totals
so_far layout rs = record { layout = layout; entries = rs; unassigned = 0 }

reported_last : (layout : Layout) (done rs : List Record) (r : Record) → IsLayout layout
    → IsTable layout (done ++ r ∷ rs) → with_record (so_far layout done) r ≡ so_far layout (done ++ r ∷ [])
reported_last layout done rs r l t =
    let under : IsUnder layout r.key = at_end (λ x. IsUnder layout x.key) done rs r t.under in
    let refined : refines r.key.layout layout ≡ true =
    subst (λ (k : Layout). refines k layout ≡ true) (sym under.0) (refines_own layout l) in
    let added : add_at done (project r.key layout) r.counts ≡ done ++ r ∷ [] =
    ap (λ (k : Key). add_at done k r.counts) (project_own layout r.key l under)
    ∙ added_last done r (others_before done rs r t.differ) in
    rw refined (ap (so_far layout) added)

reported_on : (layout : Layout) (done rs : List Record) → IsLayout layout → IsTable layout (done ++ rs)
    → with_records (so_far layout done) rs ≡ so_far layout (done ++ rs)
reported_on layout done [] l t = ap (so_far layout) (sym (append-nil done))
reported_on layout done (r ∷ rs) l t =
    let one = reported_last layout done rs r l t in
    let joined = append_assoc done (r ∷ []) rs in
    let rest = reported_on layout (done ++ r ∷ []) rs l (subst (λ (xs : List Record). IsTable layout xs) (sym joined) t)
    in
    ap (λ (x : Totals). with_records x rs) one ∙ rest ∙ ap (so_far layout) joined

pub restated : (layout : Layout) (rs : List Record) → IsLayout layout → IsTable layout rs
    → with_records (nothing layout) rs ≡ record { layout = layout; entries = rs; unassigned = 0 }
restated layout rs l t = reported_on layout [] rs l t
