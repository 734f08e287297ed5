use Rattle.fx_join.proofs.PartFaults.{shown_at_part}
use Rattle.fx_join.proofs.part_check.certified_part.Goals as goal

pub returns-in-Err-clause-err : goal.returns-in-Err-clause-err
returns-in-Err-clause-err g c =
    shown_at_part c.args.part.now c.args.number c.in-Err.fault c.refusal_of_part.result c.in-Err.ensures.err
    c.refusal_of_part.ensures

pub returns-in-Err-check_certificate-clause-err : goal.returns-in-Err-check_certificate-clause-err
returns-in-Err-check_certificate-clause-err g c =
    shown_at_part c.args.part.now c.args.number c.in-Err-check_certificate.fault
    c.refusal_of_part-in-Err-check_certificate.result c.in-Err-check_certificate.ensures.err
    c.refusal_of_part-in-Err-check_certificate.ensures
