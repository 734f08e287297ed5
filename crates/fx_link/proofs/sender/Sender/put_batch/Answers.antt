use Rattle.std.proofs.Common.{◌≡◌, ◌≤◌, ◌<◌, ◌+◌, List, [], ◌∷◌, ◌++◌, length, ap, ◌∙◌, arith}
use Rattle.fx_layout.specs.Keys.{Layout}
use Rattle.fx_wire.specs.Sets.{SetParts}
use Rattle.fx_wire.specs.Writing.{message_octets}
use Rattle.fx_link.specs.Records.{records_octets, template_octets}
use Rattle.fx_link.specs.Sending.{Sender}
use Rattle.fx_link.proofs.SetsTrip.{Placed, placed, alone, behind, short, put_is, from_none}
use Rattle.fx_link.proofs.sender.Sender.put_batch.Goals as goal

pub put_sets-requires : goal.put_sets-requires
put_sets-requires c =
    let layouts : List Layout = c.args.self.now.layouts in
    let own : c.as_slice.result.now ≡ layouts = c.as_slice.ensures.value ∙ ap (λ (s : Sender). s.layouts) c.self.view_is
    in
    let p : Placed layouts c.args.batch.now c.layout-layout.result.now c.place_of-index.result =
    placed layouts c.as_slice.result.now c.args.batch.now c.index-batch-0.result c.layout-layout.result.now
    c.place_of-index.result own c.requires.batch.some c.index-batch-0.is c.layout-layout.ensures
    c.place_of-index.ensures.place c.place_of-index.ensures.bound c.place_of-index.ensures.known in
    let content : c.as_slice-2.result.now ≡ records_octets c.args.batch.now =
    from_none c.new-content.result.items c.put_records.new.octets.items (records_octets c.args.batch.now)
    c.as_slice-2.result c.new-content.ensures.items c.in_ok-put_records.ensures c.as_slice-2.ensures.value in
    let less : c.place_of-index.result < length layouts =
    (let l = ap length own in omega (
      arith,
      c.len.ensures,
      ap length
          (ap (λ (s : Sender). s.layouts) c.self.view_is),
    )) in
    short layouts c.args.batch.now (record { id = 256 + c.place_of-index.result; content = c.as_slice-2.result } ∷ [])
    c.requires.batch (alone layouts c.args.batch.now c.layout-layout.result.now c.place_of-index.result
    c.as_slice-2.result p less content)

pub put_sets-requires-2 : goal.put_sets-requires-2
put_sets-requires-2 c =
    let layouts : List Layout = c.args.self.now.layouts in
    let own : c.as_slice.result.now ≡ layouts = c.as_slice.ensures.value ∙ ap (λ (s : Sender). s.layouts) c.self.view_is
    in
    let p : Placed layouts c.args.batch.now c.layout-layout.result.now c.place_of-index.result =
    placed layouts c.as_slice.result.now c.args.batch.now c.index-batch-0.result c.layout-layout.result.now
    c.place_of-index.result own c.requires.batch.some c.index-batch-0.is c.layout-layout.ensures
    c.place_of-index.ensures.place c.place_of-index.ensures.bound c.place_of-index.ensures.known in
    let content : c.as_slice-2.result.now ≡ records_octets c.args.batch.now =
    from_none c.new-content.result.items c.put_records.new.octets.items (records_octets c.args.batch.now)
    c.as_slice-2.result c.new-content.ensures.items c.in_ok-put_records.ensures c.as_slice-2.ensures.value in
    let template : c.as_slice-3.result.now ≡ template_octets (256 + c.place_of-index.result)
    c.layout-layout.result.now = from_none c.new-template.result.items c.put_template.new.octets.items
    (template_octets (256 + c.place_of-index.result) c.layout-layout.result.now) c.as_slice-3.result
    c.new-template.ensures.items c.in_ok-put_template.ensures c.as_slice-3.ensures.value in
    let past : length layouts ≤ c.place_of-index.result =
    omega (arith, c.len.ensures, ap length (ap (λ (s : Sender). s.layouts) c.self.view_is)) in
    short layouts c.args.batch.now (record { id = 2; content = c.as_slice-3.result }
    ∷ record { id = 256 + c.place_of-index.result; content = c.as_slice-2.result } ∷ []) c.requires.batch
    (behind layouts c.args.batch.now c.layout-layout.result.now c.place_of-index.result c.as_slice-2.result
    c.as_slice-3.result p past content template)

pub returns-then-index-len-clause-octets : goal.returns-then-index-len-clause-octets
returns-then-index-len-clause-octets c =
    let layouts : List Layout = c.args.self.now.layouts in
    let own : c.as_slice.result.now ≡ layouts = c.as_slice.ensures.value ∙ ap (λ (s : Sender). s.layouts) c.self.view_is
    in
    let p : Placed layouts c.args.batch.now c.layout-layout.result.now c.place_of-index.result =
    placed layouts c.as_slice.result.now c.args.batch.now c.index-batch-0.result c.layout-layout.result.now
    c.place_of-index.result own c.requires.batch.some c.index-batch-0.is c.layout-layout.ensures
    c.place_of-index.ensures.place c.place_of-index.ensures.bound c.place_of-index.ensures.known in
    let content : c.as_slice-2.result.now ≡ records_octets c.args.batch.now =
    from_none c.new-content.result.items c.put_records.new.octets.items (records_octets c.args.batch.now)
    c.as_slice-2.result c.new-content.ensures.items c.in_ok-put_records.ensures c.as_slice-2.ensures.value in
    let less : c.place_of-index.result < length layouts =
    (let l = ap length own in omega (
      arith,
      c.len.ensures,
      ap length
          (ap (λ (s : Sender). s.layouts) c.self.view_is),
    )) in
    put_is c.put_sets.result c.put_sets.new.stream.octets.items c.args.stream.now.octets.items c.args.header.now layouts
    c.args.batch.now (record { id = 256 + c.place_of-index.result; content = c.as_slice-2.result } ∷ [])
    (alone layouts c.args.batch.now c.layout-layout.result.now c.place_of-index.result c.as_slice-2.result p less
    content) c.put_sets.ensures.ok

pub returns-clause-octets : goal.returns-clause-octets
returns-clause-octets c =
    let layouts : List Layout = c.args.self.now.layouts in
    let own : c.as_slice.result.now ≡ layouts = c.as_slice.ensures.value ∙ ap (λ (s : Sender). s.layouts) c.self.view_is
    in
    let p : Placed layouts c.args.batch.now c.layout-layout.result.now c.place_of-index.result =
    placed layouts c.as_slice.result.now c.args.batch.now c.index-batch-0.result c.layout-layout.result.now
    c.place_of-index.result own c.requires.batch.some c.index-batch-0.is c.layout-layout.ensures
    c.place_of-index.ensures.place c.place_of-index.ensures.bound c.place_of-index.ensures.known in
    let content : c.as_slice-2.result.now ≡ records_octets c.args.batch.now =
    from_none c.new-content.result.items c.put_records.new.octets.items (records_octets c.args.batch.now)
    c.as_slice-2.result c.new-content.ensures.items c.in_ok-put_records.ensures c.as_slice-2.ensures.value in
    let template : c.as_slice-3.result.now ≡ template_octets (256 + c.place_of-index.result)
    c.layout-layout.result.now = from_none c.new-template.result.items c.put_template.new.octets.items
    (template_octets (256 + c.place_of-index.result) c.layout-layout.result.now) c.as_slice-3.result
    c.new-template.ensures.items c.in_ok-put_template.ensures c.as_slice-3.ensures.value in
    let past : length layouts ≤ c.place_of-index.result =
    omega (arith, c.len.ensures, ap length (ap (λ (s : Sender). s.layouts) c.self.view_is)) in
    c.in_ok-put_sets.ensures.ok
    ∙ ap (λ (ss : List SetParts). c.args.stream.now.octets.items ++ message_octets c.args.header.now ss)
    ((behind layouts c.args.batch.now c.layout-layout.result.now c.place_of-index.result c.as_slice-2.result
    c.as_slice-3.result p past content template))
