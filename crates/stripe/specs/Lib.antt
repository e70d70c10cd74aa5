pub mod Stripe
pub mod Laws
