pub mod ExchangeLemmas
pub mod PlaceLemmas
