pub mod Asked
pub mod Answers
pub mod Places
pub mod Laws
pub mod event_asked_under
pub mod event_shown_under
pub mod event_under_form
