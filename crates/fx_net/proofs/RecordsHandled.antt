-- Records that a receiver has read are handled one after another, whatever still waits.
use Rattle.std.proofs.Common.{◌≡◌, ℕ, zero, suc, ◌<◌, Bool, true, false, cond, List, [], ◌∷◌, length, set, get_or, slice_get, Option, Some, None, refl, sym, ap, ◌∙◌, arith}
use Rattle.std.proofs.lemmas.Option.{slice_get-get_or}
use Rattle.fx_base.specs.declared.counts.Counts.{Counts}
use Rattle.fx_tables.specs.declared.holding.Holding.{Holding}
use Rattle.fx_tables.specs.declared.record.Record.{Record}
use Rattle.fx_tables.specs.Network.{Net, named_by}
use Rattle.fx_collect.specs.Totals.{with_record}
use Rattle.fx_session.specs.Streams.{SessionState, IsNextRecord}
use Rattle.fx_link.specs.Ongoing.{Ongoing}
use Rattle.fx_net.specs.declared.leaving.Leaver.{Leaver}
use Rattle.fx_net.specs.Contents.{Contents, with_changed}
use Rattle.fx_runs.specs.Destinations.{links_used}
use Rattle.fx_net.specs.Exporting.{with_waiting, put_each, after_send}
use Rattle.fx_net.specs.Leaving.{after_leave, after_leaves}
use Rattle.fx_net.specs.Taking.{stores_and_leavers, all_leave_at_once, with_stores, after_taking}
use Rattle.fx_net.specs.Arriving.{process_behind, leads_to_report, exporters_named, takers, after_tally, after_arrive, after_arrivals, after_handling, waiting_on, with_left, IsNext}
use Rattle.fx_net.proofs.ChangedLists.{changed_set, set_same}

-- what stands at a place of the links
pub link_is : (xs : List Ongoing) (n : ℕ) (x : Ongoing) → n < length xs → x ≡ get_or xs n x → slice_get xs n ≡ Some x
link_is xs n x lt e = slice_get-get_or xs n x lt ∙ ap Some (sym e)

-- ---- the next record

pub next_is : (xs : List Ongoing) (n : ℕ) (old new : Ongoing) (result : Option Record) → n < length xs → old
    ≡ get_or xs n old
    → IsNextRecord old.receiver new.receiver result → new ≡ record old { receiver = new.receiver }
    → IsNext n xs (set xs n new) result
next_is xs n old new None lt is h rest = (
  ap (set xs n) (rest ∙ ap (λ (st : SessionState). record old { receiver = st }) h.1)
      ∙ set_same xs n old lt is,
  ap waiting_on (link_is xs n old lt is) ∙ h.0,
)
next_is xs n old new (Some r) lt is h rest =
    let rs = new.receiver.known.waiting in (
      rs,
      ap waiting_on (link_is xs n old lt is) ∙ ap (λ (st : SessionState). st.known.waiting) h,
      changed_set (with_left rs) xs n old new lt
          (rest ∙ sym (ap (λ (st : SessionState). record old
          { receiver = record st { known = record st.known { waiting = rs } } }) h) ∙ ap (with_left rs) is),
    )

-- ---- nothing else is done to what waits at a receiver

commutes : {A : Type 0} (f g : A → A) → ((x : A) → f (g x) ≡ g (f x)) → (xs : List A) (m n : ℕ)
    → with_changed f (with_changed g xs m) n ≡ with_changed g (with_changed f xs n) m
commutes f g h [] m n = refl
commutes f g h (x ∷ xs) zero zero = ap (λ y. y ∷ xs) (h x)
commutes f g h (x ∷ xs) zero (suc n) = refl
commutes f g h (x ∷ xs) (suc m) zero = refl
commutes f g h (x ∷ xs) (suc m) (suc n) = ap (λ ys. x ∷ ys) (commutes f g h xs m n)

put_clears : (time : ℕ) (r : Record) (ls : List ℕ) (links : List Ongoing) (n : ℕ)
    → with_changed (with_left []) (put_each time r ls links) n
    ≡ put_each time r ls (with_changed (with_left []) links n)
put_clears time r [] links n = refl
put_clears time r (l ∷ ls) links n =
    put_clears time r ls (with_changed (with_waiting time r) links l) n
    ∙ ap (put_each time r ls) (commutes (with_left []) (with_waiting time r) (λ o. refl) links l n)

same_waiting : (time : ℕ) (r : Record) (links : List Ongoing) (m n : ℕ)
    → waiting_on (slice_get (with_changed (with_waiting time r) links m) n) ≡ waiting_on (slice_get links n)
same_waiting time r [] m n = refl
same_waiting time r (x ∷ xs) zero zero = refl
same_waiting time r (x ∷ xs) zero (suc n) = refl
same_waiting time r (x ∷ xs) (suc m) zero = refl
same_waiting time r (x ∷ xs) (suc m) (suc n) = same_waiting time r xs m n

put_waits : (time : ℕ) (r : Record) (ls : List ℕ) (links : List Ongoing) (n : ℕ)
    → waiting_on (slice_get (put_each time r ls links) n) ≡ waiting_on (slice_get links n)
put_waits time r [] links n = refl
put_waits time r (l ∷ ls) links n = put_waits time r ls (with_changed (with_waiting time r) links l) n
    ∙ same_waiting time r links l n

-- with nothing that waits at a link's receiver
abbrev pub cleared : ℕ → Contents → Contents
cleared n c = record c { links = with_changed (with_left []) c.links n }

abbrev pub waits : ℕ → Contents → List Record
waits n c = waiting_on (slice_get c.links n)

send_clears : (net : Net) (places : List ℕ) (r : Record) (c : Contents) (n : ℕ) → cleared n (after_send net places r c)
    ≡ after_send net places r (cleared n c)
send_clears net places r c n = ap (λ (links : List Ongoing). record c { links = links })
    (put_clears c.second r (links_used net c.chosen places) c.links n)

leaves_clear : (net : Net) (ls : List Leaver) (c : Contents) (n : ℕ) → cleared n (after_leaves net ls c)
    ≡ after_leaves net ls (cleared n c)
leaves_clear net [] c n = refl
leaves_clear net (l ∷ ls) c n =
    leaves_clear net ls (after_leave net l c) n
    ∙ ap (after_leaves net ls) (send_clears net (named_by (slice_get net.holders l.holder)) l.flow c n)

leaves_wait : (net : Net) (ls : List Leaver) (c : Contents) (n : ℕ) → waits n (after_leaves net ls c) ≡ waits n c
leaves_wait net [] c n = refl
leaves_wait net (l ∷ ls) c n =
    leaves_wait net ls (after_leave net l c) n
    ∙ put_waits c.second l.flow (links_used net c.chosen (named_by (slice_get net.holders l.holder))) c.links n

taking_clears : (net : Net) (counts : Counts) (hs : List Holding) (c : Contents) (n : ℕ)
    → cleared n (after_taking net counts hs c) ≡ after_taking net counts hs (cleared n c)
taking_clears net counts hs c n =
    let stores = (stores_and_leavers c.stores counts hs).stores in
    let left = (stores_and_leavers c.stores counts hs).left in
    let at_once = all_leave_at_once stores counts hs in
    leaves_clear net at_once (after_leaves net left (with_stores c stores)) n
    ∙ ap (after_leaves net at_once) (leaves_clear net left (with_stores c stores) n)

taking_waits : (net : Net) (counts : Counts) (hs : List Holding) (c : Contents) (n : ℕ)
    → waits n (after_taking net counts hs c) ≡ waits n c
taking_waits net counts hs c n =
    let stores = (stores_and_leavers c.stores counts hs).stores in
    let left = (stores_and_leavers c.stores counts hs).left in
    leaves_wait net (all_leave_at_once stores counts hs) (after_leaves net left (with_stores c stores)) n
    ∙ leaves_wait net left (with_stores c stores) n

abbrev if_tallied : Bool → Record → Contents → Contents
if_tallied true r c = record c { totals = with_record c.totals r }
if_tallied false r c = c

tally_clears : (b : Bool) (r : Record) (c : Contents) (n : ℕ) → cleared n (if_tallied b r c)
    ≡ if_tallied b r (cleared n c)
tally_clears true r c n = refl
tally_clears false r c n = refl

tally_waits : (b : Bool) (r : Record) (c : Contents) (n : ℕ) → waits n (if_tallied b r c) ≡ waits n c
tally_waits true r c n = refl
tally_waits false r c n = refl

tally_is : (net : Net) (link : ℕ) (r : Record) (c : Contents) → after_tally net link r c
    ≡ if_tallied (leads_to_report net (slice_get net.links link)) r c
tally_is net link r c = go (leads_to_report net (slice_get net.links link))
  where
    go : (b : Bool) → cond b (record c { totals = with_record c.totals r }) c ≡ if_tallied b r c
    go true = refl
    go false = refl

arrive_clears : (net : Net) (link : ℕ) (r : Record) (c : Contents) (n : ℕ) → cleared n (after_arrive net link r c)
    ≡ after_arrive net link r (cleared n c)
arrive_clears net link r c n =
    let ps = exporters_named (process_behind net link) in
    let hs = takers net link r.key in
    let b = leads_to_report net (slice_get net.links link) in
    taking_clears net r.counts hs (after_send net ps r (after_tally net link r c)) n
    ∙ ap (after_taking net r.counts hs) (send_clears net ps r (after_tally net link r c) n
    ∙ ap (after_send net ps r) (ap (cleared n) (tally_is net link r c) ∙ tally_clears b r c n
    ∙ sym (tally_is net link r (cleared n c))))

arrive_waits : (net : Net) (link : ℕ) (r : Record) (c : Contents) (n : ℕ) → waits n (after_arrive net link r c)
    ≡ waits n c
arrive_waits net link r c n =
    let ps = exporters_named (process_behind net link) in
    let hs = takers net link r.key in
    let t = after_tally net link r c in
    let b = leads_to_report net (slice_get net.links link) in
    taking_waits net r.counts hs (after_send net ps r t) n
    ∙ put_waits t.second r (links_used net t.chosen ps) t.links n
    ∙ ap (waits n) (tally_is net link r c) ∙ tally_waits b r c n

-- ---- one record after another

cleared_again : (rs : List Record) (xs : List Ongoing) (n : ℕ)
    → with_changed (with_left []) (with_changed (with_left rs) xs n) n ≡ with_changed (with_left []) xs n
cleared_again rs [] n = refl
cleared_again rs (x ∷ xs) zero = refl
cleared_again rs (x ∷ xs) (suc n) = ap (λ ys. x ∷ ys) (cleared_again rs xs n)

waits_left : (rs : List Record) (xs : List Ongoing) (n : ℕ) (r : Record) → waiting_on (slice_get xs n) ≡ r ∷ rs
    → waiting_on (slice_get (with_changed (with_left rs) xs n) n) ≡ rs
waits_left rs [] n r e = absurd (none_waits r rs e)
  where
    none_waits : (r : Record) (rs : List Record) → ◌≡◌ {A = List Record} [] (r ∷ rs) → ⊥
    none_waits r rs e = omega (arith, ap length e)
waits_left rs (x ∷ xs) zero r e = refl
waits_left rs (x ∷ xs) (suc n) r e = waits_left rs xs n r e

pub handled_next : (net : Net) (link : ℕ) (r : Record) (c : Contents) (links : List Ongoing)
    → IsNext link c.links links (Some r)
    → after_handling net link (after_arrive net link r (record c { links = links })) ≡ after_handling net link c
handled_next net link r c links h =
    let rs = h.0 in
    let c1 : Contents = record c { links = links } in
    let left : waits link c1 ≡ rs = ap (λ xs. waiting_on (slice_get xs link)) h.2 ∙ waits_left rs c.links link r h.1 in
    ap (λ ws. after_arrivals net link ws (cleared link (after_arrive net link r c1)))
    (arrive_waits net link r c1 link ∙ left)
    ∙ ap (after_arrivals net link rs) (arrive_clears net link r c1 link
    ∙ ap (λ (xs : List Ongoing). after_arrive net link r (record c { links = xs }))
    (ap (λ xs. with_changed (with_left []) xs link) h.2 ∙ cleared_again rs c.links link))
    ∙ sym (ap (λ ws. after_arrivals net link ws (cleared link c)) h.1)

pub handled_fewer : (net : Net) (link : ℕ) (r : Record) (c : Contents) (links : List Ongoing)
    → IsNext link c.links links (Some r)
    → suc (length (waits link (after_arrive net link r (record c { links = links })))) ≡ length (waits link c)
handled_fewer net link r c links h =
    let rs = h.0 in
    let c1 : Contents = record c { links = links } in
    ap (λ (ws : List Record). suc (length ws))
    (arrive_waits net link r c1 link ∙ ap (λ xs. waiting_on (slice_get xs link)) h.2
    ∙ waits_left rs c.links link r h.1)
    ∙ sym (ap length h.1)

none_left : (xs : List Ongoing) (n : ℕ) → waiting_on (slice_get xs n) ≡ [] → with_changed (with_left []) xs n ≡ xs
none_left [] n e = refl
none_left (x ∷ xs) zero e = ap (λ y. y ∷ xs) (ap (λ ws. with_left ws x) (sym e))
none_left (x ∷ xs) (suc n) e = ap (λ ys. x ∷ ys) (none_left xs n e)

pub handled_all : (net : Net) (link : ℕ) (c : Contents) → waits link c ≡ [] → after_handling net link c ≡ c
handled_all net link c e =
    ap (λ ws. after_arrivals net link ws (cleared link c)) e
    ∙ ap (λ (xs : List Ongoing). record c { links = xs }) (none_left c.links link e)
