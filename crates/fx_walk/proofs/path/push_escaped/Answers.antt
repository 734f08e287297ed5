use Rattle.std.proofs.Common.{List, ℕ, ◌++◌, ap, sym, ◌∙◌, string_bytes}
use Rattle.std.specs.List.{flat_map}
use Rattle.std.proofs.lemmas.Iterator.{YieldsList-from_chars}
use Rattle.std.proofs.lemmas.Iterator.Consumers.{YieldsList-end}
use Rattle.std.proofs.lemmas.List.{flat_map_more, map-id}
use Rattle.fx_walk.specs.Pointer.{escaped_char}
use Rattle.fx_walk.proofs.path.push_escaped.Goals as goal

pub loop-c-preserved : goal.loop-c-preserved
loop-c-preserved c =
    c.in_ok-push_escaped_char.ensures ∙ ap (λ (text : List ℕ). text ++ escaped_char c.in-Some.c) c.loop-c.invariant
    ∙ flat_map_more escaped_char (string_bytes c.args.out.now) c.loop-c.yielded c.in-Some.c

pub returns : goal.returns
returns c =
    let all = YieldsList-end (YieldsList-from_chars c.args.name.now c.utf8.name cc) c.loop-c.yielded _
    c.loop-c.yielded_by _ _ c.in-None.is c.next.ensures.steps in
    c.loop-c.invariant ∙ ap (λ (cs : List ℕ). string_bytes c.args.out.now ++ flat_map escaped_char cs)
    (sym (map-id c.loop-c.yielded) ∙ all.0)
