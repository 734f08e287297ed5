use Rattle.std.proofs.Common.{ℕ, ap, ◌++◌, ◌∙◌, List, cond}
use Rattle.std.specs.Prelude.{is_ok}
use Rattle.std.specs.Int.{bytes_high_first}
use Rattle.fx_link.proofs.OctetsPut.{then_more, if_ok}
use Rattle.fx_link.proofs.records.put_counts.Goals as goal

pub returns : goal.returns
returns c =
    then_more c.extend_from_slice-2.result c.args.octets.now.items (bytes_high_first 8 c.args.counts.octets)
    (bytes_high_first 8 c.args.counts.packets) c.extend_from_slice.new.self.items
    c.extend_from_slice-2.new.self.items
    (c.in_ok-extend_from_slice.ensures.items ∙ ap (λ (l : List ℕ). c.args.octets.now.items ++ l) c.to_be_bytes.ensures)
    (if_ok c.extend_from_slice-2.result c.extend_from_slice-2.new.self.items c.extend_from_slice.new.self.items
    (c.extend_from_slice.new.self.items ++ bytes_high_first 8 c.args.counts.packets)
    (c.extend_from_slice-2.ensures.items ∙ ap (λ (l : List ℕ). cond (is_ok c.extend_from_slice-2.result)
    (c.extend_from_slice.new.self.items ++ l) c.extend_from_slice.new.self.items) c.to_be_bytes-2.ensures))
