use Rattle.std.proofs.Common.{◌≡◌, ◌<◌, ◌^◌, ap, arith, subst, IfNone, IfSome, refl}
use Rattle.fx_base.specs.Entries.{entry_numbered}
use Rattle.fx_tables.specs.Classes.{exempts, path}
use Rattle.fx_tables.specs.declared.packet.Packet.{Packet}
use Rattle.fx_steps.specs.WrongRun.{HasNoRun, IsWrongRun}
use Rattle.fx_search.specs.Fronts.{most_lines}
use Rattle.fx_search.proofs.SearchEnds.{no_run_there, refuted_there}
use Rattle.fx_search.proofs.searching.refute.Goals as goal

pub returns-in-Some-clause-settles : goal.returns-in-Some-clause-settles
returns-in-Some-clause-settles c limit stopped =
    let net = c.args.tables.now.net in
    let classes = c.args.classes.now in
    let p = c.least_packet-packet.result in
    let one : p.octets ≡ 1 = ap (λ (q : Packet). q.octets) c.least_packet-packet.ensures.is in
    let small : p.octets < 2 ^ 64 = omega (arith, one) in
    let w : IsWrongRun net classes p c.in-Some.steps.items =
    subst (λ o. IfSome o (λ v. IsWrongRun net classes p v.items)) c.in-Some.is c.in_ok-steps.ensures.found in
    let there = refuted_there net classes (most_lines limit) c.args.here.now c.args.judgement p c.in-Some.steps.items
    c.least_packet-packet.ensures.is c.least_packet-packet.ensures.held stopped w in
    c.refutations_refute.ensures net classes (record { packet = p; steps = c.in-Some.steps.items }) small there.0

pub returns-in-Some-clause-right : goal.returns-in-Some-clause-right
returns-in-Some-clause-right c limit stopped =
    let net = c.args.tables.now.net in
    let classes = c.args.classes.now in
    let p = c.least_packet-packet.result in
    let w : IsWrongRun net classes p c.in-Some.steps.items =
    subst (λ o. IfSome o (λ v. IsWrongRun net classes p v.items)) c.in-Some.is c.in_ok-steps.ensures.found in
    rw (c.refuted.ensures, c.new.ensures) (refuted_there net classes (most_lines limit) c.args.here.now c.args.judgement
    p c.in-Some.steps.items c.least_packet-packet.ensures.is c.least_packet-packet.ensures.held stopped w)

pub returns-in-None-clause-right : goal.returns-in-None-clause-right
returns-in-None-clause-right c limit stopped =
    let net = c.args.tables.now.net in
    let classes = c.args.classes.now in
    let p = c.least_packet-packet.result in
    let none = subst (λ o. IfNone o (HasNoRun net p.fields (path classes p) (exempts (entry_numbered classes p.class))))
    c.in-None.is c.in_ok-steps.ensures.none in
    rw c.reached.ensures (record {
      ahead = c.args.here.now;
      class_is = refl;
      path_is = refl;
      region_is = refl;
      large =
          no_run_there net classes (most_lines limit) c.args.here.now c.args.judgement p
          c.least_packet-packet.ensures.is
          stopped none;
    })
