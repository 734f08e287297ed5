use Rattle.std.proofs.Common.{inl, inr, map, string_bytes}
use Rattle.fx_base.specs.Fault.{fault_at}
use Rattle.fx_base.specs.declared.fault.Place.TheVariants as places
use Rattle.fx_cli.proofs.CallOutputs.{ends_as, memory_refusal, too_short}
use Rattle.fx_cli.proofs.running.answer_arguments.Goals as goal

pub returns-in-Err-clause-call : goal.returns-in-Err-clause-call
returns-in-Err-clause-call g c = λ call names. elim c.in-Err.ensures.call [
  | inl memory ↦ elim (c.finish_arguments.ensures.memory memory) [
    | inl ended ↦ inr (inl (ended.2, (fault_at 900 places.None, memory_refusal call, ended.1, ended.0)))
    | inr failed ↦ inr (inr (failed.0, inl failed.1))
  ]
  | inr none ↦ absurd (none call names)
]

pub returns-then-arguments-lt2-clause-call : goal.returns-then-arguments-lt2-clause-call
returns-then-arguments-lt2-clause-call g c =
    λ call names. absurd (too_short string_bytes c.args.arguments.now call c.if-arguments-lt2.true names)

pub returns-in-Ok-clause-call : goal.returns-in-Ok-clause-call
returns-in-Ok-clause-call g c = λ call names.
    ends_as (map string_bytes c.args.arguments.now) c.in-Ok.call call c.in-Ok.ensures.call names _ _ _ _ _
    c.finish_call.ensures.ended

pub returns-then-arguments-lt2-clause-bundle : goal.returns-then-arguments-lt2-clause-bundle
returns-then-arguments-lt2-clause-bundle g c = λ few. c.finish_input.ensures.ended

pub returns-in-Err-clause-no_call : goal.returns-in-Err-clause-no_call
returns-in-Err-clause-no_call g c = λ many none. elim c.finish_arguments.ensures.status [
  | inl memory ↦ inl memory
  | inr ends ↦ elim c.in-Err.ensures.kinds [
    | inl memory ↦ inl (c.finish_arguments.ensures.memory memory)
    | inr among ↦ inr (_, among, ends)
  ]
]
