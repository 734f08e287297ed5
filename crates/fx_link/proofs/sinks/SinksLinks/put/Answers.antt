use Rattle.std.proofs.Common.{◌∙◌, inl, refl, arith}
use Rattle.fx_link.proofs.SinksKnown.{none_known, none_known_first, sink_known}
use Rattle.fx_link.proofs.sinks.SinksLinks.put.Goals as goal
use Rattle.fx_link.proofs.sinks.SinksLinks.put.Goals.{then-link-eq0-via-then-link-eq0, then-link-eq0-via-else-link-eq0+then-link-len}

pub returns-then-link-eq0 : goal.returns-then-link-eq0
returns-then-link-eq0 g c = record {
  ok = elim c.then-link-eq0.branch [
    | then-link-eq0-via-then-link-eq0 w ↦ none_known_first g.S.Sink.taken c.args.self.now.sinks.items c.args.link
        c.args.octets.now w.if-link-eq0.true
    | then-link-eq0-via-else-link-eq0+then-link-len w ↦
        none_known g.S.Sink.taken c.args.self.now.sinks.items c.args.link c.args.octets.now (omega arith)
  ];
  going = λ _. refl;
  err = tt;
}

pub returns-in-Ok : goal.returns-in-Ok
returns-in-Ok g c = record {
  ok = sink_known g.S.Sink.taken c.args.self.now.sinks.items c.args.link c.index_mut.result.now c.put_text.new.sink
      c.args.octets.now c.if-link-eq0.false (omega arith) c.index_mut.ensures.value c.in-Ok.ensures.ok;
  going = λ _. refl;
  err = tt;
}

pub returns-in-Err : goal.returns-in-Err
returns-in-Err g c = record { ok = tt; going = tt; err = (inl c.in-Err.ensures.err.0, refl) }
