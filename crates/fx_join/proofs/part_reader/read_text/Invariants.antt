use Rattle.std.proofs.Common.{◌≡◌, ◌≤◌, ◌++◌, List, ℕ, length, option_map}
use Rattle.std.specs.Io.KnownBytes.{prepend_known}
use Rattle.fx_base.specs.Lines.{text_lines}
use Rattle.fx_join.specs.PartTexts.{first_text, put_before}
use Rattle.fx_join.specs.Streams.{ReadsOn, octet_budget, octets_of}
use Rattle.fx_join.proofs.part_reader.read_text.Given as goal

abbrev pub invariant-lines : goal.invariant-lines
invariant-lines g l =
    let left = g.R.Source.left in
    let asked = g.R.Source.calls in
    record {
      start : l.start ≡ length l.text.items;
      before : prepend_known l.text.items (octets_of l.stream (left l.source))
          ≡ octets_of l.initial.stream (left l.initial.source);
      lines : (rest : List ℕ) → first_text (text_lines (l.text.items ++ rest))
          ≡ option_map (put_before l.text.items) (first_text (text_lines rest));
      small : octet_budget l.stream ≤ octet_budget l.initial.stream;
      on : ReadsOn l.initial.stream.calls (left l.initial.source) (asked l.initial.source) l.stream.calls
          (left l.source) (asked l.source);
    }

abbrev pub decreases-lines : goal.decreases-lines
decreases-lines g l = octet_budget l.stream
