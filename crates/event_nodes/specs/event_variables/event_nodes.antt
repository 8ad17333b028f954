pub use Rattle.base_tables.specs.Table
