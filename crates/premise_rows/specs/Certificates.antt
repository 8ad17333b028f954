-- Two circuits that have a certificate.
use Rattle.std.specs.Prelude.{codes}
use Rattle.job_cert.specs.Answer.{AreCertifiable}
use Rattle.pair_texts.specs.design_rows.Texts.{on_and, off_and, late, early}

-- two ands, and a circuit with the same retimed
abbrev pub CertificatesMeetPremises : Type 0
CertificatesMeetPremises = AreCertifiable on_and off_and (codes "y") × AreCertifiable late early (codes "y")
