-- What each link receives when a record is put on some links.
use Rattle.std.specs.Prelude.{◌≡◌, ℕ, suc, ◌<◌, ◌==◌, List, [], ◌∷◌, ◌++◌, length, slice_get, slice_set, option_map, Some, if◌then◌else◌}
use Rattle.fx_tables.specs.declared.record.Record.{Record}
use Rattle.fx_tables.specs.declared.holder_name.HolderName.{HolderName}
use Rattle.fx_run_text.specs.declared.step.Step.TheVariants.{Cross, Expire, Arrive}
use Rattle.fx_machine.specs.States.{State}
use Rattle.fx_machine.specs.Acts.{Choices}
use Rattle.fx_machine.specs.Sends.{put_all}
use Rattle.fx_runs.specs.PutOn.{put_by}

-- the record, once for each occurrence of the link in this list
abbrev pub records_given : List ℕ → Record → ℕ → List Record
records_given [] r link = []
records_given (l ∷ ls) r link = (if l == link then r ∷ [] else []) ++ records_given ls r link

-- ---- the laws

-- The records that a link is given are appended to those on it.
abbrev pub GivesAll : Type 0
GivesAll =
    (links : List ℕ) (r : Record) (rss : List (List Record)) (link : ℕ)
    → slice_get (put_all links r rss) link
    ≡ option_map (λ rs. rs ++ records_given links r link) (slice_get rss link)

-- A record that leaves a holder and is put on some links puts on each existing link what that link is given.
abbrev pub ExpirePuts : Type 0
ExpirePuts =
    (name : HolderName) (number : ℕ) (choices : Choices) (s : State) (t : State)
    (links : List ℕ) (r : Record) (link : ℕ)
    → t.carried ≡ put_all links r s.carried → link < length s.carried
    → put_by (Expire name number choices) link s t ≡ records_given links r link

-- The same holds for the first record of a link, which leaves that link.
abbrev pub ArrivePuts : Type 0
ArrivePuts =
    (from : ℕ) (choices : Choices) (s : State) (t : State)
    (links : List ℕ) (r : Record) (rs : List Record) (link : ℕ)
    → slice_get s.carried from ≡ Some (r ∷ rs)
    → t.carried ≡ put_all links r (slice_set s.carried from rs)
    → link < length s.carried
    → put_by (Arrive (suc from) 1 choices) link s t ≡ records_given links r link

-- A crossing puts nothing on any link.
abbrev pub CrossPuts : Type 0
CrossPuts =
    (packet : ℕ) (crossing : ℕ) (choices : Choices) (s : State) (t : State) (link : ℕ)
    → t.carried ≡ s.carried
    → put_by (Cross packet crossing choices) link s t ≡ []
