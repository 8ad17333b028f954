pub use Rattle.job_base.specs.Written
pub use Rattle.job_base.specs.declared.finding.File
pub use Rattle.job_base.specs.declared.finding.Finding
pub use Rattle.job_base.specs.declared.finding.LineFault
pub use Rattle.job_base.specs.declared.finding.Refusal
pub use Rattle.job_base.specs.declared.finding.Stop
pub use Rattle.job_base.specs.declared.status.StatusName
