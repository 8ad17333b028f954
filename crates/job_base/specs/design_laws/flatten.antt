pub use Rattle.flatten.specs.DesignFaults
