-- The sum of texts of totals that were collected separately.
use Rattle.std.specs.Prelude.{◌≡◌, ◌⊎◌, ℕ, List, Ok, Err, IsPermutation}
use Rattle.fx_base.specs.declared.fault.Fault.{Fault}
use Rattle.fx_base.specs.Lines.{Lines}
use Rattle.fx_collect.specs.Report.{KeysAscend}
use Rattle.fx_layout.specs.Keys.{Layout}
use Rattle.fx_plan.specs.Tables.{net_of}
use Rattle.fx_sums.specs.SumReading.{MayReadTexts, sum_of_texts}
use Rattle.fx_sums.specs.SumText.{noted_text}
use Rattle.fx_sums.specs.Sums.{IsSumBut, Sum, no_sum}
use Rattle.fx_topology.specs.declared.network.NetworkDocument.{NetworkDocument}
use Rattle.fx_checker.specs.Documents.{IsNetworkDocument, IsRefusedNetwork}

-- the text of a sum, with its keys in ascending order
pub record IsTextOfSum (sum : Sum) (text : List ℕ) : Type 0 where
  pub sorted : Sum
  pub entries : IsPermutation sum.totals.entries sorted.totals.entries
  pub ascending : KeysAscend sorted.totals.entries
  pub rest : IsSumBut sum sorted
  pub text_is : text ≡ noted_text sorted

-- the sum of the texts of totals that a reader's lines hold, under a layout's keys
pub record IsSummedUnder (layout : Layout) (lines : Lines) (text : List ℕ) : Type 0 where
  pub sum : Sum
  pub sum_is : MayReadTexts (sum_of_texts (no_sum layout)) lines (Ok sum)
  pub text_is : IsTextOfSum sum text

-- the same under the report of the network that a document declares
pub record IsSummed (network_octets : List ℕ) (lines : Lines) (text : List ℕ) : Type 0 where
  pub network : NetworkDocument
  pub network_is : IsNetworkDocument network_octets network
  pub summed : IsSummedUnder (net_of network).report_layout lines text

-- a line isn't well-formed as a line of totals under a layout's keys
abbrev pub IsRefusedTotals : Layout → Lines → Fault → Type 0
IsRefusedTotals layout lines e = MayReadTexts (sum_of_texts (no_sum layout)) lines (Err e)

-- the first refusal of a sum: that of the network's document, otherwise that of a line
abbrev pub IsRefusedSum : List ℕ → Lines → Fault → Type 0
IsRefusedSum network_octets lines e =
    IsRefusedNetwork network_octets e
    ⊎ ((network : NetworkDocument) × IsNetworkDocument network_octets network
    × IsRefusedTotals (net_of network).report_layout lines e)
