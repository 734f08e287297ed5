use Rattle.std.proofs.Common.{◌≡◌, ◌≤◌, ◌++◌, List, ℕ, length}
use Rattle.std.specs.Io.KnownBytes.{prepend_known}
use Rattle.fx_base.specs.Lines.{line_len}
use Rattle.fx_join.specs.Streams.{ReadsOn, octet_budget, octets_of}
use Rattle.fx_join.proofs.stream.Stream.push_line.Given as goal

abbrev pub invariant-pieces : goal.invariant-pieces
invariant-pieces g l =
    let left = g.R.Source.left in
    let asked = g.R.Source.calls in
    record {
      line : (line : List ℕ) × (line_len line ≡ length line) × (l.text.items ≡ l.initial.text.items ++ line)
          × (prepend_known line (octets_of l.self (left l.source))
          ≡ octets_of l.initial.self (left l.initial.source));
      small : octet_budget l.self ≤ octet_budget l.initial.self;
      on : ReadsOn l.initial.self.calls (left l.initial.source) (asked l.initial.source) l.self.calls (left l.source)
          (asked l.source);
    }

abbrev pub decreases-pieces : goal.decreases-pieces
decreases-pieces g l = octet_budget l.self
