-- What happens to a record that arrives at a collecting process.
use Rattle.std.specs.Prelude.{ℕ, Bool, List, [], ◌∷◌, ◌++◌, map, if◌then◌else◌}
use Rattle.fx_layout.specs.Keys.{Key}
use Rattle.fx_tables.specs.declared.holding.Holding.{Holding}
use Rattle.fx_tables.specs.Network.{Net, at_places}
use Rattle.fx_machine.specs.Acts.{Act, Tally, Send}
use Rattle.fx_machine.specs.Holds.{hold_act}

abbrev pub sends : Net → Key → List ℕ → List Act
sends net key places = map (λ e. Send e key) (at_places net.exporters places)

-- the record is tallied, forwarded and added to holders
abbrev pub handling_acts : Net → Key → Bool → List ℕ → List Holding → List Act
handling_acts net key tallies places holdings = (if tallies then Tally key ∷ [] else [])
    ++ (sends net key places ++ map hold_act holdings)
