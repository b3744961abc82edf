mod Releasing
