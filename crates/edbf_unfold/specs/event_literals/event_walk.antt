pub mod Ready
pub mod Walk
pub mod Plan
pub mod FramePlaces
