-- The message of a batch of records is read as those records.
use Rattle.std.proofs.Common.{◌≡◌, ℕ, suc, ◌+◌, ◌*◌, ◌%◌, ◌^◌, ◌≤◌, ◌<◌, Bool, true, false, ◌&&◌, not, ◌==◌, cond, ltb, ltb-true, le-ltb, List, [], ◌∷◌, ◌++◌, length, drop, refl, ap, sym, ◌∙◌, arith, length-append, Option, Some, Result, Ok}
use Rattle.std.specs.Int.{bytes_high_first}
use Rattle.std.specs.List.{AllByRecursion}
use Rattle.std.proofs.lemmas.Bool.Decides.{nat_tests}
use Rattle.std.proofs.lemmas.List.{drop_all}
use Rattle.fx_elements.specs.declared.axis.Axis.{Axis}
use Rattle.fx_elements.specs.Axes.{axis_count, axis_index}
use Rattle.fx_elements.proofs.EveryAxis.{on_axis, index_below}
use Rattle.fx_layout.specs.declared.layout.Part.{Part}
use Rattle.fx_layout.specs.Keys.{Layout, IsLayout, AxesAscend}
use Rattle.fx_tables.specs.declared.record.Record.{Record}
use Rattle.fx_wire.specs.Sets.{SetParts, is_reserved}
use Rattle.fx_wire.specs.Messages.{Message, front, complete}
use Rattle.fx_wire.specs.Writing.{message_length, message_octets, HaveIds, IsMessage}
use Rattle.fx_wire.specs.declared.field.FieldSpecifier.{FieldSpecifier}
use Rattle.fx_wire.specs.declared.template.TemplateKind.TheVariants as kinds
use Rattle.fx_wire.proofs.RoundTrip.{message_back, message_octets-length}
use Rattle.fx_session.specs.Templates.{Template, Templates, at_number}
use Rattle.fx_session.specs.TemplateSets.{template_set}
use Rattle.fx_session.specs.DataSets.{Taken, flow_set}
use Rattle.fx_session.specs.Messages.{Reading, Known, with_templates, with_taken, data_by, set_read, sets_read, new_domain, gaps_after, with_domain, known_after, message_read}
use Rattle.fx_session.specs.Messages as messages
use Rattle.fx_session.specs.Streams.{SessionState, waits, place_after, read_all, after_piece}
use Rattle.fx_session.specs.declared.domain.Domain.{Domain}
use Rattle.fx_session.proofs.MessageSteps.{sets_read-first, sets_read-end}
use Rattle.fx_session.proofs.StreamSteps.{after_piece-on, all_goes, all_none}
use Rattle.fx_link.specs.Records.{axis_octets, is_whole, whole_octets, prefix_of, fields_of, specifiers_octets, value_octets, key_octets, record_octets, records_octets, template_octets}
use Rattle.fx_link.specs.Sending.{Sender, layout_of, knows, template_id, message_sets, header_at, batch_octets, layouts_with, after_batch, IsSendable, IsBatch, IsSender, template_of, templates_from, domain_of, domains_of, KeepsUp, ReadsMore}
use Rattle.fx_link.proofs.DataTrip.{with_flows, flows_back}
use Rattle.fx_link.proofs.TemplateTrip.{template_back, few_fields}
use Rattle.fx_link.proofs.RecordTrip.{length-bytes}
use Rattle.fx_link.proofs.TableTrip.{at_past, with_new, at_template, id_few}
use Rattle.fx_session.specs.declared.stream_fault.StreamFault.{StreamFault}

-- ---- sets

template_read : (r : Reading) (content : List ℕ) (new : Templates) → template_set r.templates kinds.Plain content
    ≡ Ok new → set_read r (record { id = 2; content = content }) ≡ Ok (record { templates = new; taken = r.taken })
unfolding set_read
template_read r content new e = ap (with_templates r.taken) e

data_read : (r : Reading) (id : ℕ) (content : List ℕ) (template : Template) (new : Taken) → 256 ≤ id
    → at_number r.templates.plain id ≡ Some template → flow_set template.fields r.taken content ≡ Ok new
    → set_read r (record { id = id; content = content }) ≡ Ok (record { templates = r.templates; taken = new })
unfolding set_read
data_read r id content template new from at e =
    let two : (id == 2) ≡ false = grind (arith, nat_tests) in
    let three : (id == 3) ≡ false = grind (arith, nat_tests) in
    neither _ _ _ _ _ two three
    ∙ ap (λ (o : Option Template). with_taken r.templates
    (data_by o (at_number r.templates.options id) r.taken content)) at ∙ ap (with_taken r.templates) e where
      neither : {A : Type 0} (a b : Bool) (x y z : A) → a ≡ false → b ≡ false → cond a x (cond b y z) ≡ z
      neither true b x y z e f = absurd cc
      neither false true x y z e f = absurd cc
      neither false false x y z e f = refl

abbrev templates_for : List Layout → Templates
templates_for layouts = record { plain = templates_from 256 layouts; options = [] }

-- the sets of a message: the layout's template is there behind them, and the records wait
sets_back : (layouts : List Layout) (batch : List Record) (t : Taken) → 256 + length layouts < 2 ^ 16 → IsBatch batch
    → t.count + length batch < 2 ^ 32
    → sets_read (record { templates = templates_for layouts; taken = t }) (message_sets layouts batch)
    ≡ Ok (record { templates = templates_for (layouts_with layouts (layout_of batch)); taken = with_flows t batch })
sets_back layouts batch t few b h = by (knows layouts (layout_of batch)) refl where
  data_back : (after : List Layout) → at_number (templates_from 256 after) (template_id layouts (layout_of batch))
      ≡ Some (template_of (layout_of batch))
      → sets_read (record { templates = templates_for after; taken = t })
      (record { id = template_id layouts (layout_of batch); content = records_octets batch } ∷ [])
      ≡ Ok (record { templates = templates_for after; taken = with_flows t batch })
  data_back after at =
      let r : Reading = record { templates = templates_for after; taken = t } in
      let next : Reading = record { templates = templates_for after; taken = with_flows t batch } in
      let s : SetParts = record { id = template_id layouts (layout_of batch); content = records_octets batch } in
      sets_read-first r next s [] (s ∷ []) refl
      (data_read r (template_id layouts (layout_of batch)) (records_octets batch) (template_of (layout_of batch))
      (with_flows t batch) (omega arith) at (flows_back (layout_of batch) t batch b.layout b.records h))
      ∙ sets_read-end next [] refl

  by : (k : Bool) → knows layouts (layout_of batch) ≡ k
      → sets_read (record { templates = templates_for layouts; taken = t })
      (cond k [] (record { id = 2; content = template_octets (256 + length layouts) (layout_of batch) } ∷ [])
      ++ record { id = template_id layouts (layout_of batch); content = records_octets batch } ∷ [])
      ≡ Ok (record {
        templates = templates_for (cond k layouts (layouts ++ layout_of batch ∷ []));
        taken =
            with_flows t batch;
      })
  by true k = data_back layouts (ap (λ (u : Bool). at_number
      (templates_from 256 (cond u layouts (layouts ++ layout_of batch ∷ []))) (template_id layouts (layout_of batch)))
      (sym k) ∙ at_template layouts (layout_of batch))
  by false k =
      let r : Reading = record { templates = templates_for layouts; taken = t } in
      let new : List Layout = layouts ++ layout_of batch ∷ [] in
      let s : SetParts = record { id = 2; content = template_octets (256 + length layouts) (layout_of batch) } in
      let d : SetParts = record { id = template_id layouts (layout_of batch); content = records_octets batch } in
      let set : template_set (templates_for layouts) kinds.Plain
      (template_octets (256 + length layouts) (layout_of batch)) ≡ Ok (templates_for new) =
      template_back (templates_for layouts) (256 + length layouts) (layout_of batch) b.layout (omega arith) few
      (at_past 256 (256 + length layouts) layouts (omega arith)) refl
      ∙ ap (λ (p : List (ℕ × Template)). let o : Result Templates StreamFault = Ok (record { plain = p; options = [] })
      in o) (with_new layouts (layout_of batch)) in
      sets_read-first r (record { templates = templates_for new; taken = t }) s (d ∷ []) (s ∷ d ∷ []) refl
      (template_read r (template_octets (256 + length layouts) (layout_of batch)) (templates_for new) set)
      ∙ data_back new (ap (λ (u : Bool). at_number
      (templates_from 256 (cond u layouts (layouts ++ layout_of batch ∷ [])))
      (template_id layouts (layout_of batch))) (sym k) ∙ at_template layouts (layout_of batch))

-- ---- what the message does to what is known

-- the templates of the domain, whether it had a message or not
domain_before : (s : Sender) → (messages.domain_of (at_number (domains_of s) 0)).templates ≡ templates_for s.layouts
domain_before s = by s.layouts refl where
  by : (layouts : List Layout) → s.layouts ≡ layouts
      → (messages.domain_of (at_number (elim layouts [ [] ↦ [] | layout ∷ rest ↦ (0, domain_of s) ∷ [] ]) 0)).templates
      ≡ templates_for s.layouts
  by [] e = sym (ap templates_for e)
  by (l ∷ ls) e = refl

-- the sequence number is the one that comes next, where it had one
no_gap : (gaps : ℕ) (s : Sender) → gaps_after gaps (messages.domain_of (at_number (domains_of s) 0)).next s.sent ≡ gaps
no_gap gaps s = by s.layouts where
  by : (layouts : List Layout) → gaps_after gaps
      (messages.domain_of (at_number (elim layouts [ [] ↦ [] | layout ∷ rest ↦ (0, domain_of s) ∷ [] ]) 0)).next s.sent
      ≡ gaps
  by [] = refl
  by (l ∷ ls) = ap (λ (t : Bool). cond t gaps ((gaps + 1) % 2 ^ 64))
      (let e : (s.sent == s.sent) ≡ true = grind (arith, nat_tests) in e)

domain_put : (s : Sender) (new : Domain) → with_domain (domains_of s) 0 new ≡ (0, new) ∷ []
domain_put s new = by s.layouts where
  by : (layouts : List Layout) → with_domain (elim layouts [ [] ↦ [] | layout ∷ rest ↦ (0, domain_of s) ∷ [] ]) 0 new
      ≡ (0, new) ∷ []
  by [] = refl
  by (l ∷ ls) = refl

-- once a message was put on the link
domain_after : (s : Sender) (batch : List Record) → domains_of (after_batch s batch)
    ≡ (0, domain_of (after_batch s batch)) ∷ []
domain_after s batch = by (knows s.layouts (layout_of batch)) s.layouts refl where
  by : (k : Bool) (layouts : List Layout) → knows layouts (layout_of batch) ≡ k
      → ◌≡◌ {A = List (ℕ × Domain)} (elim (cond k layouts (layouts ++ layout_of batch ∷ []))
      [ [] ↦ [] | layout ∷ rest ↦ (0, domain_of (after_batch s batch)) ∷ [] ])
      ((0, domain_of (after_batch s batch)) ∷ [])
  by true [] e = absurd cc
  by true (l ∷ ls) e = refl
  by false [] e = refl
  by false (l ∷ ls) e = refl

abbrev message_of : ℕ → Sender → List Record → Message
message_of time s batch = record {
  octets = message_length (message_sets s.layouts batch);
  header =
      header_at time s;
  sets = message_sets s.layouts batch;
}

abbrev known_then : Known → Sender → List Record → Known
known_then k s batch = record {
  domains = domains_of (after_batch s batch);
  waiting = k.waiting ++ batch;
  gaps =
      k.gaps;
  skipped = k.skipped;
}

abbrev known_shape : Known → Taken → List (ℕ × Domain) → ℕ → Result Known StreamFault
known_shape k t domains gaps = Ok (record { domains = domains; waiting = t.waiting; gaps = gaps; skipped = t.skipped })

abbrev domain_shape : List Layout → ℕ → Domain
domain_shape layouts next = record { templates = templates_for layouts; next = Some next }

message_done : (k : Known) (time : ℕ) (s : Sender) (batch : List Record) → k.domains ≡ domains_of s → IsSender s
    → IsBatch batch → message_read k (message_of time s batch) ≡ Ok (known_then k s batch)
unfolding message_read
message_done k time s batch d is b =
    let m : Message = message_of time s batch in
    let before : Domain = messages.domain_of (at_number k.domains 0) in
    let t : Taken = record { waiting = k.waiting; skipped = k.skipped; count = 0 } in
    let templates : before.templates ≡ templates_for s.layouts =
    ap (λ (ds : List (ℕ × Domain)). (messages.domain_of (at_number ds 0)).templates) d ∙ domain_before s in
    let few : 0 + length batch < 2 ^ 32 = (let h : length batch ≤ 64 = b.few in omega arith) in
    let read : sets_read (record { templates = before.templates; taken = t }) m.sets
    ≡ Ok (record {
      templates = templates_for (layouts_with s.layouts (layout_of batch));
      taken =
          with_flows t batch;
    }) =
    ap (λ (ts : Templates). sets_read (record { templates = ts; taken = t }) m.sets) templates
    ∙ sets_back s.layouts batch t is.few b few in
    let next : (s.sent + (0 + length batch)) % 2 ^ 32 ≡ (s.sent + length batch) % 2 ^ 32 = omega arith in
    ap (known_after k m before) read
    ∙ ap (λ (n : ℕ). known_shape k (with_flows t batch)
    (with_domain k.domains 0 (domain_shape (layouts_with s.layouts (layout_of batch)) n))
    (gaps_after k.gaps before.next s.sent)) next
    ∙ ap (λ (ds : List (ℕ × Domain)). known_shape k (with_flows t batch)
    (with_domain ds 0 (domain_of (after_batch s batch)))
    (gaps_after k.gaps (messages.domain_of (at_number ds 0)).next s.sent)) d
    ∙ ap (λ (ds : List (ℕ × Domain)). known_shape k (with_flows t batch) ds
    (gaps_after k.gaps (messages.domain_of (at_number (domains_of s) 0)).next s.sent))
    (domain_put s (domain_of (after_batch s batch)) ∙ sym (domain_after s batch))
    ∙ ap (known_shape k (with_flows t batch) (domains_of (after_batch s batch))) (no_gap k.gaps s)

-- ---- how long a message is

width_few : (axis : Axis) → axis_octets axis ≤ 16
width_few axis = let h : ltb (axis_octets axis) 17 ≡ true = on_axis (λ axis. ltb (axis_octets axis) 17) refl axis in
    omega (arith, ltb-true _ _ h)

value_few : (part : Part) (v : ℕ) → length (value_octets part v) ≤ 17
value_few part v = by (is_whole part) where
  by : (t : Bool) → length (cond t (whole_octets part.axis v)
      (whole_octets part.axis (prefix_of part v) ++ part.bits ∷ [])) ≤ 17
  by true = omega (arith, length-bytes (axis_octets part.axis) v, width_few part.axis)
  by false = omega (
    arith,
    length-append (whole_octets part.axis (prefix_of part v)) (part.bits ∷ []),
    length-bytes
        (axis_octets part.axis) (prefix_of part v),
    width_few part.axis,
  )

key_few : (layout : Layout) (values : List ℕ) → length (key_octets layout values) ≤ 17 * length layout
key_few [] values = omega arith
key_few (part ∷ parts) [] = omega arith
key_few (part ∷ parts) (v ∷ vs) =
    let rest : length (key_octets parts vs) ≤ 17 * length parts = key_few parts vs in
    omega (arith, length-append (value_octets part v) (key_octets parts vs), value_few part v)

pub axes_few : (k : ℕ) (layout : Layout) → AxesAscend k layout → k ≤ axis_count → length layout + k ≤ axis_count
axes_few k [] a h = omega arith
axes_few k (part ∷ parts) a h =
    let before : axis_index part.axis < axis_count = index_below part.axis in
    let rest : length parts + suc (axis_index part.axis) ≤ axis_count =
    axes_few (suc (axis_index part.axis)) parts a.1 (omega arith) in
    omega (arith, a.0)

specifiers_few : (fs : List FieldSpecifier) → length (specifiers_octets fs) ≡ 4 * length fs
specifiers_few [] = refl
specifiers_few (f ∷ fs) = let rest : length (specifiers_octets fs) ≡ 4 * length fs = specifiers_few fs in omega arith

pub template_few : (id : ℕ) (layout : Layout) → IsLayout layout → length (template_octets id layout) ≤ 84
template_few id layout is =
    let few : length (fields_of layout) + 2 * 0 ≤ 20 = few_fields 0 layout is.ascends (omega arith) in
    omega (arith, specifiers_few (fields_of layout))

record_few : (layout : Layout) (r : Record) → IsLayout layout → IsSendable layout r → length (record_octets r) ≤ 169
unfolding record_octets
record_few layout r is h =
    let few : length layout + 0 ≤ axis_count = axes_few 0 layout is.ascends (omega arith) in
    let key : length (key_octets r.key.layout r.key.values) ≤ 17 * length r.key.layout =
    key_few r.key.layout r.key.values in
    let same : length r.key.layout ≡ length layout = ap length h.layout_is in
    omega (
      arith,
      length-append (key_octets r.key.layout r.key.values)
          (bytes_high_first 8 r.counts.octets ++ bytes_high_first 8 r.counts.packets),
    )

pub records_few : (layout : Layout) (rs : List Record) → IsLayout layout → AllByRecursion (IsSendable layout) rs
    → length (records_octets rs) ≤ 169 * length rs
records_few layout [] is h = omega arith
records_few layout (r ∷ rs) is h =
    let rest : length (records_octets rs) ≤ 169 * length rs = records_few layout rs is h.1 in
    let one : length (record_octets r) ≤ 169 = record_few layout r is h.0 in
    omega (arith, length-append (record_octets r) (records_octets rs))

pub sets_few : (layouts : List Layout) (batch : List Record) → IsBatch batch
    → message_length (message_sets layouts batch) ≤ 65535
sets_few layouts batch b = by (knows layouts (layout_of batch)) where
  by : (k : Bool) → message_length (cond k []
      (record { id = 2; content = template_octets (256 + length layouts) (layout_of batch) } ∷ [])
      ++ record { id = template_id layouts (layout_of batch); content = records_octets batch } ∷ []) ≤ 65535
  by true = let few : length batch ≤ 64 = b.few in omega (arith, records_few (layout_of batch) batch b.layout b.records)
  by false = let few : length batch ≤ 64 = b.few in
      omega (
        arith,
        records_few (layout_of batch) batch b.layout b.records,
        template_few (256 + length layouts)
            (layout_of batch) b.layout,
      )

data_id : (id : ℕ) → 256 ≤ id → is_reserved id ≡ false
data_id id h = ap (λ (t : Bool). t && (not (id == 2) && not (id == 3))) (le-ltb id 256 h)

ids_are : (layouts : List Layout) (batch : List Record) → 256 + length layouts < 2 ^ 16
    → HaveIds (message_sets layouts batch)
ids_are layouts batch h = by (knows layouts (layout_of batch)) where
  by : (k : Bool) → HaveIds (cond k [] (record
      { id = 2; content = template_octets (256 + length layouts) (layout_of batch) } ∷ [])
      ++ record { id = template_id layouts (layout_of batch); content = records_octets batch } ∷ [])
  by true = (
    (
      omega (arith, id_few layouts (layout_of batch)),
      data_id (template_id layouts (layout_of batch))
          (omega arith),
    ),
    tt,
  )
  by false = (
    (omega arith, refl),
    (
      (
        omega (arith, id_few layouts (layout_of batch)),
        data_id
            (template_id layouts (layout_of batch)) (omega arith),
      ),
      tt,
    ),
  )

-- ---- the law

waits_then : (st : SessionState) (time : ℕ) (s : Sender) (batch : List Record) → time < 2 ^ 32 → IsSender s
    → IsBatch batch → KeepsUp s st
    → (place : ℕ) × (after_piece st (batch_octets time s batch) ≡ waits (known_then st.known s batch) place [])
unfolding batch_octets
waits_then st time s batch h is b up =
    let m : Message = message_of time s batch in
    let bs : List ℕ = message_octets (header_at time s) (message_sets s.layouts batch) in
    let whole : IsMessage (header_at time s) (message_sets s.layouts batch) =
    record {
      time = h;
      sequence = is.sent;
      domain = omega arith;
      ids = ids_are s.layouts batch is.few;
      length_is =
          sets_few s.layouts batch b;
    } in
    let first : front bs ≡ complete m = message_back (header_at time s) (message_sets s.layouts batch) whole in
    let end : drop m.octets bs ≡ [] = drop_all m.octets bs
    (omega (arith, message_octets-length (header_at time s) (message_sets s.layouts batch))) in (
      place_after st.place m.octets,
      after_piece-on st bs up.fault ∙ ap (λ (r : List ℕ). read_all st.known st.place (r ++ bs)) up.rest
          ∙ all_goes st.known (known_then st.known s batch) st.place m bs first
          (message_done st.known time s batch up.domains is b)
          ∙ ap (read_all (known_then st.known s batch) (place_after st.place m.octets)) end
          ∙ all_none (known_then st.known s batch) (place_after st.place m.octets),
    )

pub batch_back : (time : ℕ) (s : Sender) (st : SessionState) (batch : List Record) → time < 2 ^ 32 → IsSender s
    → IsBatch batch → KeepsUp s st
    → KeepsUp (after_batch s batch) (after_piece st (batch_octets time s batch))
    × ReadsMore st (after_piece st (batch_octets time s batch)) batch
batch_back time s st batch h is b up =
    let w = waits_then st time s batch h is b up in
    let known : (after_piece st (batch_octets time s batch)).known ≡ known_then st.known s batch =
    ap (λ (x : SessionState). x.known) w.1 in (
      record {
        domains = ap (λ (k : Known). k.domains) known;
        rest = ap (λ (x : SessionState). x.rest) w.1;
        fault =
            ap (λ (x : SessionState). x.fault) w.1;
      },
      record {
        waiting = ap (λ (k : Known). k.waiting) known;
        gaps = ap (λ (k : Known). k.gaps) known;
        skipped =
            ap (λ (k : Known). k.skipped) known;
      },
    )
