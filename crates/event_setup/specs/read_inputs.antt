pub use Rattle.sec_setup.specs.Setup
