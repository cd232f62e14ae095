-- The definitions that contracts cite, and their laws.
pub mod Booking
pub mod Claim
pub mod BookingLaws
pub mod CallLaws
pub mod StepLaws
pub mod ClaimLaws
pub mod RecordLaws
pub mod EnoughLaws
