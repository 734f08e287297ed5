use Rattle.std.proofs.Common.{arith, rules}
use Rattle.std.proofs.Common.{◌++◌, ◌∙◌, ap, sym, take, List, [], ℕ, Option, Some, option_map}
use Rattle.fx_session.specs.Messages.{Known, without_domains}
use Rattle.fx_session.specs.StreamFaults.{number_of}
use Rattle.fx_session.specs.Streams.{SessionState, read_all, waits}
use Rattle.fx_session.proofs.StreamSteps.{all_none, out_of_memory}
use Rattle.fx_session.proofs.session.Session.feed_watched.Goals as goal

abbrev stopped : Known → ℕ → List ℕ → Option ℕ → SessionState
stopped k place rest fault = record { known = k; place = place; rest = rest; fault = fault }

pub returns-in-Err-clause-starves : goal.returns-in-Err-clause-starves
returns-in-Err-clause-starves g c = λ _ _.
    let known = ap (λ (s : SessionState). s.known) c.self.view_is in
    let place = ap (λ (s : SessionState). s.place) c.self.view_is in (
      0,
      c.args.self.now.known,
      all_none c.args.self.now.known c.args.self.now.place
          ∙ ap (λ (p : ℕ). waits c.args.self.now.known p []) (sym place),
      ap (λ (k : Known). stopped k c.self.inside.place c.clear.new.self.items (Some 900))
          (c.forget.ensures ∙ ap without_domains known)
          ∙ ap (λ (bs : List ℕ). stopped (without_domains c.args.self.now.known) c.self.inside.place bs (Some 900))
          c.clear.ensures.items,
    )

pub returns-in-Some-fault-clause-starves : goal.returns-in-Some-fault-clause-starves
returns-in-Some-fault-clause-starves g c = λ _ starved.
    let known = ap (λ (s : SessionState). s.known) c.self.view_is in
    let place = ap (λ (s : SessionState). s.place) c.self.view_is in
    let rest = ap (λ (s : SessionState). s.rest) c.self.view_is in
    let stops = rw (out_of_memory c.take_messages-at.result.1 starved) at c.take_messages-at.ensures.stops in
    let octets = c.as_slice.ensures.value ∙ c.in_default-extend_from_slice.ensures.items
    ∙ ap (λ (bs : List ℕ). bs ++ c.args.piece.now) rest in
    let count = c.take_messages-at.result.0 in
    let later = c.take_messages-at.new.place in (
      count,
      stops.0,
      ap (λ (k : Known). read_all k c.args.self.now.place (take count (c.args.self.now.rest ++ c.args.piece.now)))
          (sym known)
          ∙ ap (λ (p : ℕ). read_all c.self.inside.known p (take count (c.args.self.now.rest ++ c.args.piece.now)))
          (sym place)
          ∙ ap (λ (bs : List ℕ). read_all c.self.inside.known c.self.inside.place (take count bs)) (sym octets)
          ∙ stops.1,
      ap (λ (k : Known). stopped k later c.clear-in-Some-fault.new.self.items
          (option_map number_of c.take_messages-at.result.1)) stops.2
          ∙ ap (λ (bs : List ℕ). stopped (without_domains stops.0) later bs
          (option_map number_of c.take_messages-at.result.1)) c.clear-in-Some-fault.ensures.items
          ∙ ap (λ (f : Option ℕ). stopped (without_domains stops.0) later [] f) starved,
    )

pub returns-in-Some-clause-answer : goal.returns-in-Some-clause-answer
returns-in-Some-clause-answer g c = first_of (grind arith, search rules)
