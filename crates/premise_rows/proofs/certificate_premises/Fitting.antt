-- A refutation is accepted over the clauses that another call prints.
use Rattle.std.proofs.Common.{refl}
use Rattle.job_cert.specs.Answer.{AcceptsOver}
use Rattle.premise_rows.specs.certificate_premises.Fitting.{CertificatesFit}

pub certificates_fit : CertificatesFit
certificates_fit x y pair any conflicts before now earlier later proofs others (printed, taken, nets, none) (text, wrote, own, fits) =
    let h : AcceptsOver printed text = fits x y nets.a nets.b printed refl refl nets.left_loads nets.right_loads nets.said in
    record {
      printed = printed;
      refutation = text;
      printed_taken = taken;
      refutation_taken = wrote;
      accepted = h;
      verified = λ few short. record { formula = h.formula; spells = record { short = few; is = h.spells }; line = h.line; refutes = record { short = short; accepted = h.accepted } };
    }
