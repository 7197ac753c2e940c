-- `bqb_audit` meets its contract: what the audit finds at the head that the cells hold, as two numbers.
use Rattle.host_looks.specs.Verdicts.{finding_number, finding_verdict}
use Rattle.host_looks.proofs.Told.{audit_told}
use Rattle.host_looks.proofs.bqb_audit.Goals as goal

pub returns : goal.returns
returns c =
    record {
      value = audit_told finding_number _ c.head_of.ensures c.audit-verdict.ensures.found c.refusal_of.ensures;
      passes_after = audit_told finding_verdict _ c.head_of.ensures c.audit-verdict.ensures.found c.verdict_of.ensures;
    }
