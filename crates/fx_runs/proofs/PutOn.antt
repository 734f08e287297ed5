-- What some steps put on a link, over more packets and over more steps.
use Rattle.std.proofs.Common.{◌≡◌, ℕ, List, [], ◌∷◌, ◌++◌, refl, ap, sym, ◌∙◌, append_assoc, Ok}
use Rattle.fx_tables.specs.declared.packet.Packet.{Packet}
use Rattle.fx_tables.specs.declared.record.Record.{Record}
use Rattle.fx_run_text.specs.declared.step.Step.{Step}
use Rattle.fx_tables.specs.Network.{Net}
use Rattle.fx_tables.specs.Classes.{Class}
use Rattle.fx_machine.specs.States.{State, Coming}
use Rattle.fx_machine.specs.Steps.{after, run}
use Rattle.fx_runs.specs.Extending.{coming_too}
use Rattle.fx_runs.specs.PutOn.{put_by, put_then, put_on}
use Rattle.fx_runs.proofs.RunsGoOn.{first_made, after_too}

-- a step that can be made, and the rest
pub put_first : (net : Net) (classes : List Class) (packets : List Packet) (link : ℕ) (step : Step) (steps : List Step)
    (s t : State) → after net classes packets step s ≡ Ok t
    → put_on net classes packets link (step ∷ steps) s ≡ put_by step link s t ++ put_on net classes packets link steps t
put_first net classes packets link step steps s t e =
    ap (put_then step link s (put_on net classes packets link steps)) e

-- over more packets the same is put
pub put_extends : (net : Net) (classes : List Class) (packets extra : List Packet) (more : List Coming) (link : ℕ)
    (steps : List Step) (s t : State) → run net classes packets steps s ≡ Ok t
    → put_on net classes (packets ++ extra) link steps (coming_too more s) ≡ put_on net classes packets link steps s
put_extends net classes packets extra more link [] s t e = refl
put_extends net classes packets extra more link (step ∷ steps) s t e =
    let f = first_made net classes packets steps (after net classes packets step s) t e in
    put_first net classes (packets ++ extra) link step steps (coming_too more s) (coming_too more f.0)
    (after_too net classes packets extra more step s f.0 f.1)
    ∙ ap (λ (l : List Record). put_by step link s f.0 ++ l)
    (put_extends net classes packets extra more link steps f.0 t f.2)
    ∙ sym (put_first net classes packets link step steps s f.0 f.1)

-- steps behind others put what they put
pub put_joins : (net : Net) (classes : List Class) (packets : List Packet) (link : ℕ) (first behind : List Step)
    (s mid : State) → run net classes packets first s ≡ Ok mid
    → put_on net classes packets link (first ++ behind) s ≡ put_on net classes packets link first s
    ++ put_on net classes packets link behind mid
put_joins net classes packets link [] behind s mid e =
    ap (put_on net classes packets link behind) (let h : s ≡ mid = cc in h)
put_joins net classes packets link (step ∷ steps) behind s mid e =
    let f = first_made net classes packets steps (after net classes packets step s) mid e in
    put_first net classes packets link step (steps ++ behind) s f.0 f.1
    ∙ ap (λ (l : List Record). put_by step link s f.0 ++ l)
    (put_joins net classes packets link steps behind f.0 mid f.2)
    ∙ sym (append_assoc (put_by step link s f.0) (put_on net classes packets link steps f.0)
    (put_on net classes packets link behind mid))
    ∙ sym (ap (λ (l : List Record). l ++ put_on net classes packets link behind mid)
    (put_first net classes packets link step steps s f.0 f.1))
