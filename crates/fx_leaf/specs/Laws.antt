-- The laws of the quantity, and the main theorem.
use Rattle.std.specs.Prelude.{◌≡◌, ◌≢◌, List, All, Ok, length}
use Rattle.std.specs.Option.{option_map}
use Rattle.fx_layout.specs.Keys.{Key}
use Rattle.fx_tables.specs.declared.packet.Packet.{Packet}
use Rattle.fx_run_text.specs.declared.step.Step.{Step}
use Rattle.fx_base.specs.Entries.{entry_numbered}
use Rattle.fx_tables.specs.Network.{Net}
use Rattle.fx_tables.specs.Classes.{IsOf, Class, to_count}
use Rattle.fx_machine.specs.States.{State, opening, Complete}
use Rattle.fx_machine.specs.Steps.{after}
use Rattle.fx_machine.specs.Sums.{plain_sum, total_at, SumsFit}
use Rattle.fx_machine.specs.Claim.{ExactlyOnce, OnceModulo, counts_modulo}
use Rattle.fx_tables.specs.Ranks.{IsNetwork}
use Rattle.fx_leaf.specs.Certificates.{Tree, Sound}
use Rattle.fx_leaf.specs.Quantity.{Wrong, quantity, total_weight, wrapped_weight, unassigned_weight, plus}

-- the state has a list for each holder and each link
pub record IsSized (net : Net) (s : State) : Type 0 where
  pub held : length s.held ≡ length net.holders
  pub carried : length s.carried ≡ length net.links

-- in the opening state the quantity equals the plain sums over the packets to count
abbrev pub Opens : Net → List Class → Type 0
Opens net classes =
    (packets : List Packet) → All (λ p. IsOf p (entry_numbered classes p.class)) packets
    → SumsFit net.report_layout (to_count classes packets) → (total : Key)
    → quantity net classes packets total (opening net classes packets)
    ≡ total_weight (plain_sum net.report_layout total (to_count classes packets))

-- the same modulo 2 to the 64, however large the sums are
abbrev pub OpensModulo : Net → List Class → Type 0
OpensModulo net classes =
    (packets : List Packet) → All (λ p. IsOf p (entry_numbered classes p.class)) packets → (total : Key)
    → wrapped_weight (quantity net classes packets total (opening net classes packets))
    ≡ total_weight (option_map counts_modulo (plain_sum net.report_layout total (to_count classes packets)))

-- a step preserves the quantity, unless it was wrong before
abbrev pub Keeps : Net → List Class → Step → Type 0
Keeps net classes step =
    (packets : List Packet) (total : Key) (s new : State) → IsSized net s → quantity net classes packets total s ≢ Wrong
    → after net classes packets step s ≡ Ok new
    → (quantity net classes packets total new ≡ quantity net classes packets total s) × IsSized net new

-- in a complete state the quantity equals the totals
abbrev pub Ends : Net → List Class → Type 0
Ends net classes =
    (packets : List Packet) (total : Key) (s : State) → Complete s → quantity net classes packets total s
    ≡ plus (unassigned_weight s.unassigned) (total_weight (total_at s.totals total))

-- if a certificate is sound, each packet is counted once, and packets of exempt classes never
abbrev pub Theorem : Type 0
Theorem = (net : Net) (classes : List Class) (trees : List (List Tree)) → IsNetwork net → Sound net classes trees
    → ExactlyOnce net classes

-- the same modulo 2 to the 64, however large the sums are
abbrev pub TheoremModulo : Type 0
TheoremModulo = (net : Net) (classes : List Class) (trees : List (List Tree)) → IsNetwork net → Sound net classes trees
    → OnceModulo net classes
