pub mod Delivery
pub mod DeliveryLaws
pub mod Delivered
pub mod Whole
pub mod AheadDelivery
pub mod SmallChains
