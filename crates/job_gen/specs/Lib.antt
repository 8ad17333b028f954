pub mod gen_meaning
pub mod pair_gen
