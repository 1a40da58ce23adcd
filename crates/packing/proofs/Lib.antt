pub mod Laws
pub mod Sound
pub mod Places
pub mod RoundTrip
pub mod PlansAlike
pub mod AcceptedAlike
pub mod ReadStored
