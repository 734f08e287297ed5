use Rattle.std.proofs.Common.{◌∙◌, ap, sym, subst, List, length, length-append, take, drop, arith}
use Rattle.std.proofs.lemmas.List.{take-append-drop}
use Rattle.std.specs.List.{AllByRecursion}
use Rattle.fx_steps.specs.declared.pending.Pending.{Pending}
use Rattle.fx_steps.specs.Waiting.{Wait, HasPlace, holder_counts, link_counts}
use Rattle.fx_steps.proofs.RecordsBehind.{rest_is, sizes, few_wait, wait_behind}
use Rattle.fx_steps.proofs.building.Building.count_behind.Goals as goal

pub add_all-requires-clause-there : goal.add_all-requires-clause-there
add_all-requires-clause-there c =
    let net = c.args.net.now in
    let xs = c.args.self.now.plan.pending.items in
    let k = c.args.from in
    let w = c.args.self.now.waiting in
    let rest = rest_is k c.as_slice.result.now ∙ ap (drop k) c.as_slice.ensures.value in
    let s = sizes net (take k xs) w c.requires.waiting in
    let one = subst (λ m. AllByRecursion (HasPlace (length net.holders) m) (drop k xs)) (sym s.1) c.requires.there in
    let both = subst (λ m. AllByRecursion (HasPlace m (length w.carried.items)) (drop k xs)) (sym s.0) one in
    subst (λ (ys : List Pending). AllByRecursion (HasPlace (length w.held.items) (length w.carried.items)) ys)
    (sym rest) both

pub add_all-requires-clause-held : goal.add_all-requires-clause-held
add_all-requires-clause-held c =
    let xs = c.args.self.now.plan.pending.items in
    let k = c.args.from in
    let rest = rest_is k c.as_slice.result.now ∙ ap (drop k) c.as_slice.ensures.value in
    let few = few_wait c.args.net.now (take k xs) c.args.self.now.waiting c.requires.waiting in
    omega (
      arith,
      few.0,
      ap length rest,
      length-append (take k xs) (drop k xs),
      ap length (take-append-drop k xs),
      c.requires.few,
    )

pub add_all-requires-clause-carried : goal.add_all-requires-clause-carried
add_all-requires-clause-carried c =
    let xs = c.args.self.now.plan.pending.items in
    let k = c.args.from in
    let rest = rest_is k c.as_slice.result.now ∙ ap (drop k) c.as_slice.ensures.value in
    let few = few_wait c.args.net.now (take k xs) c.args.self.now.waiting c.requires.waiting in
    omega (
      arith,
      few.1,
      ap length rest,
      length-append (take k xs) (drop k xs),
      ap length (take-append-drop k xs),
      c.requires.few,
    )

pub returns-clause-waiting : goal.returns-clause-waiting
returns-clause-waiting c =
    let net = c.args.net.now in
    let xs = c.args.self.now.plan.pending.items in
    let k = c.args.from in
    let w = c.args.self.now.waiting in
    let new = c.add_all.new.self in
    let rest = rest_is k c.as_slice.result.now ∙ ap (drop k) c.as_slice.ensures.value in
    subst (λ (ys : List Pending). Wait net ys new) (take-append-drop k xs)
    (wait_behind net (take k xs) (drop k xs) w new c.requires.waiting
    (c.add_all.ensures.held ∙ ap (holder_counts w.held.items) rest)
    (c.add_all.ensures.carried ∙ ap (link_counts w.carried.items) rest))
